-- Figures within their ranges, or the fault.
use Rattle.std.specs.Prelude.{Bool, cond, ◌&&◌, ℤ, Some, None, Ok, Err, Option, Result}
use Rattle.std.specs.Option.{ok_or}
use Rattle.money.specs.declared.code.Code.{Code}
use Rattle.money.specs.declared.currency.Currency.{Currency}
use Rattle.money.specs.declared.status.Status.{Status}
use Rattle.money.specs.Ranges.{within, rate_range, figure_range, settlement_range, payment_range}
use Rattle.money.specs.Statuses.{status_of}
use Rattle.account.specs.Faults.{AccountFault, out_of_range}

-- a test of figures passes, or they are refused as out of range
abbrev pub range_answer : Bool → Option Code → Currency → Result Unit AccountFault
range_answer inside code currency = cond inside (Ok tt) (Err (out_of_range code (Some currency)))

abbrev pub rate_answer : Currency → ℤ → Result Unit AccountFault
rate_answer currency rate = cond (within rate_range rate) (Ok tt) (Err (out_of_range None (Some currency)))

abbrev pub status_answer : Currency → ℤ → Result Status AccountFault
status_answer currency flag = ok_or (status_of flag) (out_of_range None (Some currency))

-- a deposit or a callback
abbrev pub payment_answer : Option Code → Currency → ℤ → Result Unit AccountFault
payment_answer code currency amount = range_answer (within payment_range amount) code currency

abbrev pub settlement_range_answer : Option Code → Currency → ℤ → Result Unit AccountFault
settlement_range_answer code currency amount = range_answer (within settlement_range amount) code currency

abbrev pub are_figures : ℤ → ℤ → Bool
are_figures x y = within figure_range x && within figure_range y

-- a limit with its excess, or a requirement with its non-cash value
abbrev pub figures_answer : Option Code → Currency → ℤ → ℤ → Result Unit AccountFault
figures_answer code currency first second = range_answer (are_figures first second) code currency
