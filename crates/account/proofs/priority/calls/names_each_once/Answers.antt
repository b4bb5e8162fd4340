use Rattle.std.proofs.Common.{◌≡◌, ap, ◌∙◌, sym, rules, tests, nat_eq}
use Rattle.std.proofs.lemmas.Iterator.{YieldsList-from_slice}
use Rattle.std.proofs.lemmas.Iterator.Search.{all_from_yields_List}
use Rattle.std.specs.List.{count_by}
use Rattle.money.specs.Currencies.{currencies, is_same}
use Rattle.account.specs.Priorities.{times}
use Rattle.account.proofs.Namings.{counted}
use Rattle.account.proofs.priority.calls.names_each_once.Goals as goal

pub returns : goal.returns
returns c =
    let order = c.args.order.now in
    all_from_yields_List (λ k. nat_eq (times k order) 1) _ _ _ c.all.ensures.ran (YieldsList-from_slice currencies cc)
    (λ x b q k. (search (rules, tests), let e : b ≡ nat_eq (count_by (is_same x.now) order) 1 = search (rules, tests) in e ∙ ap (λ n. nat_eq n 1) (sym (counted x.now order))))
