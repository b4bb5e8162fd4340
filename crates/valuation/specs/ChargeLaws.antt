-- The flat charge keeps the laws.
use Rattle.std.specs.Prelude.{◌≡◌, ℕ, ◌+◌, ◌-◌, ◌≤◌, Bool, true, false, cond, ◌≢◌, ℤ, refl}
use Rattle.std.proofs.Common.{◌∙◌, arith}
use Rattle.std.proofs.lemmas.Bool.{cond-true, cond-false}
use Rattle.money.specs.declared.currency.Currency.{Currency}
use Rattle.money.specs.Currencies.{is_same}
use Rattle.money.proofs.EachCurrency.{same-itself, different}
use Rattle.valuation.specs.Laws.{InRange, Lawful}
use Rattle.valuation.specs.FlatCharges.{charge, charged, charged_outside, flat_admits, flat_count}
use Rattle.valuation.specs.LawsBySign.{Fair, FairSides, itself-fair, sides-fair}
use Rattle.valuation.specs.LimitedLaws.{limited-within, limited-lawful}

-- THE CHARGE

-- what the laws ask of a charge on absolute amounts
record FairCharge (charge : ℕ → ℕ) : Type 0 where
  -- it is at most the amount
  within : (n : ℕ) → charge n ≤ n
  -- of two amounts the larger is charged no less, and more by at most their difference
  rises : (m n : ℕ) → m ≤ n → charge m ≤ charge n
  slow : (m n : ℕ) → m ≤ n → charge n + m ≤ charge m + n

-- all that is used of the rounding
charge-fair : FairCharge charge
charge-fair = record { within = λ n. omega arith; rises = λ m n h. omega arith; slow = λ m n h. omega arith }

-- THE COUNTS

charge-sides : (charge : ℕ → ℕ) → FairCharge charge → FairSides (λ n. n - charge n) (λ n. n + charge n)
charge-sides charge fair = record {
  surplus-within = λ n. omega arith;
  surplus-rises = λ m n h. omega (arith, fair.within m, fair.within n, fair.slow m n h);
  surplus-slow = λ m n h. omega (arith, fair.within m, fair.rises m n h);
  deficiency-within = λ n. omega (arith, fair.within n);
  deficiency-steep = λ m n h. omega (arith, fair.rises m n h);
}

outside-fair : (same : Bool) → Fair (λ x. cond same x (charged x))
outside-fair true = itself-fair
outside-fair false = sides-fair _ _ (charge-sides charge charge-fair)

pub flat-lawful : Lawful flat_count flat_admits
unfolding flat_count
flat-lawful =
    limited-lawful flat_admits charged_outside (λ base currency _. outside-fair (is_same base currency))
    (λ base x _. cond-true _ _ _ (same-itself base))

-- outside the base an amount counts with its charge
pub flat-outside : (base currency : Currency) (x : ℤ) → base ≢ currency → InRange x → flat_count base currency x ≡ charged x
unfolding flat_count
flat-outside base currency x apart range =
    limited-within flat_admits charged_outside base currency x refl range
    ∙ cond-false (is_same base currency) x (charged x) (different base currency apart)
