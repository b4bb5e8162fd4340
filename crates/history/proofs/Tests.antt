-- What tests and options say.
use Rattle.std.proofs.Common.{◌≡◌, ℕ, Bool, true, false, cond, not, ℤ, is_some, Some, None, Option, refl, arith}
use Rattle.money.specs.declared.range.Range.{Range}
use Rattle.money.specs.Ranges.{within}
use Rattle.money.specs.Refusals.{Told}
use Rattle.request.specs.Causes.{is_none, outside}

-- where nothing is told, the first test does not apply
pub none_told : (test : Bool) (t : Told) (others : Option Told) → cond test (Some t) others ≡ None → (test ≡ false) × (others ≡ None)
none_told true t others e = let z : ◌≡◌ {A = ℕ} 0 1 = cc in absurd (omega arith)
none_told false t others e = (refl, e)

pub is-there : {X : Type 0} (o : Option X) → is_none o ≡ false → (x : X) × (o ≡ Some x)
is-there None e = let z : ◌≡◌ {A = ℕ} 0 1 = cc in absurd (omega arith)
is-there (Some x) e = (x, refl)

pub not_there : {X : Type 0} (o : Option X) → is_some o ≡ false → o ≡ None
not_there None e = refl
not_there (Some x) e = let z : ◌≡◌ {A = ℕ} 0 1 = cc in absurd (omega arith)

pub not-not : (b : Bool) → not b ≡ false → b ≡ true
not-not true e = refl
not-not false e = let z : ◌≡◌ {A = ℕ} 0 1 = cc in absurd (omega arith)

-- a figure that is not outside its range lies in it
pub is_within : (range : Range) (x : ℤ) → outside range x ≡ false → within range x ≡ true
is_within range x e = not-not (within range x) e

-- a test cannot come out both ways
pub both_ways : {X : Type 0} (b : Bool) → b ≡ true → b ≡ false → X
both_ways true t f = let z : ◌≡◌ {A = ℕ} 0 1 = cc in absurd (omega arith)
both_ways false t f = let z : ◌≡◌ {A = ℕ} 0 1 = cc in absurd (omega arith)
