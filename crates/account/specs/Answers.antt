-- What an account answers to a call on its figures.
use Rattle.std.specs.Prelude.{cond, ℤ, ◌+ℤ◌, Some, Ok, Err, Result}
use Rattle.money.specs.declared.cause.AccountCause.{AccountCause}
use Rattle.money.specs.declared.cause.AccountCause.TheVariants.{OutOfRange, PastBound, PastCeiling}
use Rattle.money.specs.declared.currency.Currency.{Currency}
use Rattle.money.specs.Ranges.{within, figure_range, settlement_range, payment_range}
use Rattle.account.specs.declared.account.AccountState.{AccountState}
use Rattle.account.specs.declared.booking.Booking.{Booking}
use Rattle.account.specs.declared.booking.Booking.TheVariants.{Deposit, Settlement, Limits, Margin, Callback as OfCallback}
use Rattle.account.specs.declared.booking.Callback.{Callback}
use Rattle.account.specs.declared.held.Account.{Account}
use Rattle.account.specs.Accounts.{figures_in}
use Rattle.account.specs.Amounts.{may_call_back}
use Rattle.account.specs.Checks.{are_figures}
use Rattle.account.specs.Faults.{AccountFault}

-- what an account holds, without the invariant
abbrev pub state_of : Account → AccountState
state_of a = a.state

-- a fault tells the code of the account and the currency of the call
abbrev pub fault_on : AccountState → Currency → AccountCause → AccountFault
fault_on a c cause = record { cause = cause; code = Some a.code; currency = Some c }

abbrev pub deposit_answer : AccountState → Currency → ℤ → Result Unit AccountFault
deposit_answer a c amount =
    cond (within payment_range amount)
    (cond (within figure_range ((figures_in a c).cash +ℤ amount)) (Ok tt) (Err (fault_on a c PastBound)))
    (Err (fault_on a c OutOfRange))

abbrev pub settlement_answer : AccountState → Currency → ℤ → Result Unit AccountFault
settlement_answer a c amount =
    cond (within settlement_range amount)
    (cond (within settlement_range ((figures_in a c).settlement +ℤ amount)) (Ok tt) (Err (fault_on a c PastBound)))
    (Err (fault_on a c OutOfRange))

-- a callback, at the rate of its currency, from an account that stands at so much
abbrev pub callback_answer : AccountState → Currency → Callback → Result Unit AccountFault
callback_answer a c b =
    cond (within payment_range b.amount)
    (cond (may_call_back (figures_in a c) b.rate b.standing b.amount) (Ok tt) (Err (fault_on a c PastCeiling)))
    (Err (fault_on a c OutOfRange))

abbrev pub limits_answer : AccountState → Currency → ℤ → ℤ → Result Unit AccountFault
limits_answer a c limit excess = cond (are_figures limit excess) (Ok tt) (Err (fault_on a c OutOfRange))

abbrev pub margin_answer : AccountState → Currency → ℤ → ℤ → Result Unit AccountFault
margin_answer a c requirement non_cash = cond (are_figures requirement non_cash) (Ok tt) (Err (fault_on a c OutOfRange))

-- the answer to a booking, by its kind
abbrev pub booking_answer : AccountState → Currency → Booking → Result Unit AccountFault
booking_answer a c (Deposit amount) = deposit_answer a c amount
booking_answer a c (Settlement amount) = settlement_answer a c amount
booking_answer a c (Limits limit excess) = limits_answer a c limit excess
booking_answer a c (Margin requirement non_cash) = margin_answer a c requirement non_cash
booking_answer a c (OfCallback callback) = callback_answer a c callback

-- what was where a call is refused, and what it makes where it is not
abbrev pub chosen : {X E : Type 0} → Result Unit E → X → X → X
chosen (Ok done) old new = new
chosen (Err fault) old new = old
