-- Bookings on an account of the book, whatever their kind.
use Rattle.std.specs.Prelude.{ℕ, Bool, not, List, [], ◌∷◌, Option, slice_set}
use Rattle.money.specs.declared.cause.AccountCause.TheVariants.{OutOfRange, PastCeiling}
use Rattle.money.specs.declared.cause.Cause.TheVariants.{Account}
use Rattle.money.specs.Ranges.{payment_range}
use Rattle.money.specs.Refusals.{Told}
use Rattle.account.specs.declared.account.AccountState.{AccountState}
use Rattle.account.specs.declared.booking.Booking.{Booking}
use Rattle.account.specs.declared.booking.Booking.TheVariants.{Deposit, Settlement, Limits, Margin, Callback}
use Rattle.account.specs.Amounts.{may_call_back}
use Rattle.account.specs.Bookings.{booking_change}
use Rattle.request.specs.Causes.{outside, tells_of}
use Rattle.history.specs.Bookings.{account_faults, deposit_faults, settlement_faults, limits_faults, margin_faults, booked, figures_of, with_accounts}
use Rattle.history.specs.States.{State}
use Rattle.history.specs.Steps.{unless}

-- what the account itself refuses a booking for
abbrev pub booking_faults : State → List ℕ → List ℕ → Booking → List (Bool × Told)
booking_faults s code currency (Deposit amount) = deposit_faults s code currency amount
booking_faults s code currency (Settlement amount) = settlement_faults s code currency amount
booking_faults s code currency (Limits limit excess) = limits_faults code currency limit excess
booking_faults s code currency (Margin requirement non_cash) = margin_faults code currency requirement non_cash
booking_faults s code currency (Callback callback) =
    (outside payment_range callback.amount, tells_of code currency (Account OutOfRange))
    ∷ (not (may_call_back (figures_of s code currency) callback.rate callback.standing callback.amount), tells_of code currency (Account PastCeiling)) ∷ []

abbrev pub booking_refusal : State → List ℕ → List ℕ → Booking → Option Told
booking_refusal s code currency booking = account_faults s code currency (booking_faults s code currency booking)

-- the book after a booking
abbrev pub after_booking : State → List ℕ → List ℕ → Booking → State
after_booking s code currency booking = unless (booking_refusal s code currency booking) s (booked s code currency (booking_change booking))

-- the book with another account at a place
abbrev pub with_row : State → ℕ → AccountState → State
with_row s at a = with_accounts s (slice_set s.accounts at a) s.optimizations
