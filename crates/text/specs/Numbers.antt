-- Numbers of a sheet: up to 12 digits, no leading zero, and a minus only before a number above 0.
use Rattle.std.specs.Prelude.{ℕ, suc, ◌^◌, ◌<◌, cond, List, [], ◌∷◌, length, drop, ℤ, pos, negsuc, neg_ℤ, Some, None, Option, ◌==◌, nat_le, slice_index}
use Rattle.std.specs.Str.Parse.{digits_value}
use Rattle.std.specs.Str.{all_ascii_digits}
use Rattle.money.specs.Options.{before}

-- the number that digits write, if they are all digits
abbrev pub counted : List ℕ → Option ℕ
counted ds = cond (all_ascii_digits ds) (Some (digits_value 10 ds)) None

-- one to 12 digits with no leading zero
abbrev pub natural : List ℕ → Option ℕ
natural [] = None
natural (c ∷ []) = counted (c ∷ [])
natural (c ∷ d ∷ ds) = cond (c == 48) None (cond (nat_le (length (c ∷ d ∷ ds)) 12) (counted (c ∷ d ∷ ds)) None)

-- a minus before 0 writes nothing
abbrev pub below_zero : ℕ → Option ℤ
below_zero n = cond (n == 0) None (Some (neg_ℤ (pos n)))

abbrev pub number_of : List ℕ → Option ℤ
number_of t = cond (slice_index t 0 == 45) (before (natural (drop 1 t)) below_zero) (before (natural t) (λ n. Some (pos n)))

-- at most 12 digits
abbrev pub Short : ℤ → Type 0
Short (pos n) = n < 10 ^ 12
Short (negsuc n) = suc n < 10 ^ 12
