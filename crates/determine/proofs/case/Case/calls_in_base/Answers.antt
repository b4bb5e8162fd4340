use Rattle.std.proofs.Common.{◌≡◌, map, ℤ, pos, ◌+ℤ◌, ◌∙◌, arith}
use Rattle.std.proofs.lemmas.Int.{ints}
use Rattle.money.specs.declared.currency.Currency.{Currency}
use Rattle.money.specs.Currencies.{currencies}
use Rattle.determination.specs.Calls.{all_called_in, call_in_base}
use Rattle.determine.specs.Cases.{market_at, state_in}
use Rattle.determine.specs.Listed.{calls_in_base}
use Rattle.determine.proofs.Besides.{zero-amount}
use Rattle.determine.proofs.case.Case.calls_in_base.Goals as goal

pub returns : goal.returns
unfolding calls_in_base
returns c =
    let m = market_at c.args.self.now in
    let a = state_in c.args.self.now in
    let r = c.args.short.count in
    let plus : (x : ℤ) → pos 0 +ℤ x ≡ x = λ x. omega (arith, ints) in
    let each : (k : Currency) → _ ≡ call_in_base m a.base a.priority r k =
    λ k. (λ j. zero-amount k j +ℤ all_called_in m (c.base_or_first_open.ensures j) r k) ∙ plus _ in
    c.call_besides.ensures ∙ (λ i. map (λ k. each k i) currencies)
