-- What holds of the valuations of this crate, with an example of the flat charge.
use Rattle.std.specs.Prelude.{◌≡◌, ◌≢◌, pos, neg_ℤ}
use Rattle.money.specs.declared.currency.Currency.{Currency}
use Rattle.valuation.specs.Laws.{Lawful}
use Rattle.valuation.specs.FlatCharges.{flat_admits, flat_count}
use Rattle.valuation.specs.Norms.{norm_admits, norm_count}

pub record ValuationFacts : Type 0 where
  -- both keep the laws
  pub flat_charge : Lawful flat_count flat_admits
  pub lending_norms : Lawful norm_count norm_admits
  -- under the flat charge a surplus of 101 outside the base counts 90
  pub surplus : (base currency : Currency) → base ≢ currency → flat_count base currency (pos 101) ≡ pos 90
  -- and a deficiency of 101 counts -112
  pub deficiency : (base currency : Currency) → base ≢ currency → flat_count base currency (neg_ℤ (pos 101)) ≡ neg_ℤ (pos 112)
