use Rattle.std.proofs.Common.{◌≡◌, ◌*◌, ◌≤◌, take, nat_abs, ℤ}
use Rattle.money.specs.declared.currency.Currency.{Currency}
use Rattle.money.specs.Currencies.{currencies}
use Rattle.determination.specs.Valuations.{worth}
use Rattle.determine.specs.Cases.{market_at, state_in}
use Rattle.determine.specs.Worths.{Gives}
use Rattle.determine.proofs.case.Case.worth.Given as goal

abbrev pub invariant-loop-currency : goal.invariant-loop-currency
invariant-loop-currency g l = record {
  worth : (t : Currency → ℤ) → Gives (goal.F-post g l.amount) t → l.sum ≡ worth g.V.Valuation.meaning (market_at l.self) (state_in l.self).base t (take l.currency-index currencies);
  small : nat_abs l.sum ≤ 800000000000000000 * l.currency-index;
}
