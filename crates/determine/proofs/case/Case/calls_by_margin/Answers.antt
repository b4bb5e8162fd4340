use Rattle.std.proofs.Common.{map, ℤ, ◌+ℤ◌, ◌∙◌, rules}
use Rattle.money.specs.declared.currency.Currency.{Currency}
use Rattle.money.specs.Currencies.{currencies}
use Rattle.determination.specs.Calls.{call_at, all_called_in}
use Rattle.determination.specs.Determinations.{balance_in}
use Rattle.determination.specs.Walks.{taken}
use Rattle.determine.specs.Cases.{market_at, state_in}
use Rattle.determine.specs.Listed.{calls_by_margin}
use Rattle.determine.proofs.Listings.{amount}
use Rattle.determine.proofs.case.Case.calls_by_margin.Goals as goal

pub returns : goal.returns
unfolding calls_by_margin
returns c =
    let m = market_at c.args.self.now in
    let a = state_in c.args.self.now in
    let call : ℤ → Currency → ℤ = call_at m (balance_in a) in
    let rest = c.walk.ensures.rest call (λ r k w called. search rules) in
    let listed = c.walk.ensures.taken call (λ r k w called. search rules) in
    c.call_besides.ensures ∙ (λ i. map (λ k. amount (taken call m.rate a.priority c.args.short.count) _ listed k i +ℤ all_called_in m (c.first_open.ensures i) (rest i) k) currencies)
