-- A priority as it is read.
use Rattle.std.specs.Prelude.{ℕ, ◌*◌, cond, List, length, Some, None, Option, ◌==◌}
use Rattle.money.specs.declared.currency.Currency.{Currency}
use Rattle.money.specs.Currencies.{currencies}
use Rattle.account.specs.declared.priority.Priority.{Priority}
use Rattle.account.specs.Priorities.{names_each_once, named}

-- the order of a priority, without the invariant
abbrev pub order_in : Option Priority → Option (List Currency)
order_in None = None
order_in (Some p) = Some p.order

-- an order, if it names each currency once
abbrev pub each_once : List Currency → Option (List Currency)
each_once order = cond (names_each_once order) (Some order) None

-- the currencies that a text names, if it has three letters for each there is
abbrev pub of_all : List ℕ → Option (List Currency)
of_all text = cond (length text == 3 * length currencies) (named text) None
