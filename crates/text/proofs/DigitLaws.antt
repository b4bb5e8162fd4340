-- What a loop over digits keeps.
use Rattle.std.proofs.Common.{◌≡◌, ℕ, zero, suc, ◌^◌, ◌<◌, ◌≤◌, Bool, true, false, ◌&&◌, List, [], ◌∷◌, length, get_or, take, length-take, refl, arith}
use Rattle.std.specs.Str.Parse.{digits_value, AllDigits}
use Rattle.std.specs.Char.{is_ascii_digit}
use Rattle.std.specs.Str.{all_ascii_digits}
use Rattle.std.proofs.lemmas.Str.Parse.{IsNumeralModel, digits_value_short, numerals_by_value, tells_all_ascii_digits, tells_digits}

pub own : IsNumeralModel (λ ds. all_ascii_digits ds ≡ true) (digits_value 10)
own = numerals_by_value _ tells_all_ascii_digits

pub plain : IsNumeralModel (AllDigits 10) (digits_value 10)
plain = numerals_by_value _ tells_digits

pub no_digit : (xs : List ℕ) (i : ℕ) → i < length xs → is_ascii_digit (get_or xs i 0) ≡ false → all_ascii_digits xs ≡ false
no_digit [] i l e = absurd (omega arith)
no_digit (c ∷ cs) zero l e = rw e
no_digit (c ∷ cs) (suc i) l e = rw (no_digit cs i (omega arith) e) (other (is_ascii_digit c))
  where
    other : (b : Bool) → (b && false) ≡ false
    other true = refl
    other false = refl

pub all_digits : (xs : List ℕ) → AllDigits 10 xs → all_ascii_digits xs ≡ true
all_digits xs d = own.from xs d

-- what up to 12 digits write is small
pub short : (xs : List ℕ) (i n : ℕ) → length xs ≤ 12 → AllDigits 10 (take i xs) → n ≡ digits_value 10 (take i xs) → n < 10 ^ 12
short xs i n few digits is = omega (arith, is, digits_value_short plain (take i xs) 12 digits (simp length-take (omega arith)))
