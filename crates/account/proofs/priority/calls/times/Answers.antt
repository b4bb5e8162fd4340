use Rattle.std.proofs.Common.{rules, arith, ◌^◌, ◌≤◌, length}
use Rattle.std.proofs.lemmas.Iterator.{YieldsList-from_slice}
use Rattle.std.proofs.lemmas.Iterator.Adapters.{fits_from_length, at_most_from_yields_List}
use Rattle.money.specs.Currencies.{currencies}
use Rattle.account.proofs.priority.calls.times.Goals as goal

-- at most one for each currency of the order
pub sum-requires-clause-fits : goal.sum-requires-clause-fits
sum-requires-clause-fits c =
    let few : length c.args.order.now ≤ length currencies = search rules in
    fits_from_length _ _ (length currencies) (2 ^ 64) (at_most_from_yields_List (YieldsList-from_slice c.args.order.now cc) few) c.map.ensures.closure (omega arith) (λ x r q k. search rules)
