-- The laws that every valuation keeps.
use Rattle.std.specs.Prelude.{◌≡◌, ℕ, ◌*◌, ◌<◌, ◌≤◌, Bool, true, false, ℤ, pos, ◌+ℤ◌, ◌-ℤ◌, ◌*ℤ◌, neg_ℤ, ◌≤ℤ◌, unsigned_abs}
use Rattle.money.specs.declared.currency.Currency.{Currency}
use Rattle.money.specs.Ranges.{bound}

-- the largest amount that counts, as a surplus or as a deficiency: four times the bound
abbrev pub largest : ℕ
largest = 4 * unsigned_abs bound

-- an amount that is not beyond the largest
abbrev pub InRange : ℤ → Type 0
InRange x = unsigned_abs x ≤ largest

-- What a valuation counts for each base, currency and amount, and the bases that it admits. A surplus is positive.
pub record Lawful (counts : Currency → Currency → ℤ → ℤ) (admits : Currency → Bool) : Type 0 where
  -- zero counts zero
  pub zero : (base currency : Currency) → admits base ≡ true → counts base currency (pos 0) ≡ pos 0
  -- in the base itself every amount counts as itself
  pub in_base : (base : Currency) (x : ℤ) → admits base ≡ true → InRange x → counts base base x ≡ x
  -- a larger amount never counts less
  pub rising : (base currency : Currency) (x y : ℤ) → admits base ≡ true → InRange x → InRange y → x ≤ℤ y → counts base currency x ≤ℤ counts base currency y
  -- a surplus counts from zero up to itself
  pub surplus : (base currency : Currency) (x : ℤ) → admits base ≡ true → InRange x → pos 0 ≤ℤ x → (pos 0 ≤ℤ counts base currency x) × (counts base currency x ≤ℤ x)
  -- a deficiency counts at least in full and at most double
  pub deficiency : (base currency : Currency) (x : ℤ) → admits base ≡ true → InRange x → x ≤ℤ pos 0 → ((pos 2 *ℤ x) ≤ℤ counts base currency x) × (counts base currency x ≤ℤ x)
  -- taking w from a surplus of at least w lowers the count by at most w
  pub taking : (base currency : Currency) (x w : ℤ) → admits base ≡ true → InRange x → pos 0 ≤ℤ w → w ≤ℤ x → (counts base currency x -ℤ w) ≤ℤ counts base currency (x -ℤ w)
  -- paying w into a deficiency of at least w raises the count by at least w
  pub paying : (base currency : Currency) (x w : ℤ) → admits base ≡ true → InRange x → pos 0 ≤ℤ w → w ≤ℤ neg_ℤ x → (counts base currency x +ℤ w) ≤ℤ counts base currency (x +ℤ w)
  -- an amount beyond the largest counts zero
  pub beyond : (base currency : Currency) (x : ℤ) → largest < unsigned_abs x → counts base currency x ≡ pos 0
  -- under a base that is not admitted every amount counts zero
  pub unadmitted : (base currency : Currency) (x : ℤ) → admits base ≡ false → counts base currency x ≡ pos 0
