-- What bookings change in the figures of an account.
use Rattle.std.specs.Prelude.{ℤ, ◌+ℤ◌, ◌-ℤ◌}
use Rattle.money.specs.declared.currency.Currency.{Currency}
use Rattle.account.specs.declared.account.AccountState.{AccountState}
use Rattle.account.specs.declared.account.Figures.{Figures}
use Rattle.account.specs.declared.booking.Booking.{Booking}
use Rattle.account.specs.declared.booking.Booking.TheVariants.{Deposit, Settlement, Limits, Margin, Callback}
use Rattle.account.specs.Accounts.{figures_in, with_figures}

-- figures with other parts
abbrev pub with_cash : ℤ → Figures → Figures
with_cash x f = record { cash = x; limit = f.limit; excess = f.excess; non_cash = f.non_cash; requirement = f.requirement; settlement = f.settlement }

abbrev pub with_settlement : ℤ → Figures → Figures
with_settlement x f = record { cash = f.cash; limit = f.limit; excess = f.excess; non_cash = f.non_cash; requirement = f.requirement; settlement = x }

abbrev pub with_limits : ℤ → ℤ → Figures → Figures
with_limits limit excess f = record { cash = f.cash; limit = limit; excess = excess; non_cash = f.non_cash; requirement = f.requirement; settlement = f.settlement }

abbrev pub with_margin : ℤ → ℤ → Figures → Figures
with_margin requirement non_cash f = record { cash = f.cash; limit = f.limit; excess = f.excess; non_cash = non_cash; requirement = requirement; settlement = f.settlement }

abbrev pub deposit_booked : ℤ → Figures → Figures
deposit_booked amount f = with_cash (f.cash +ℤ amount) f

abbrev pub settlement_booked : ℤ → Figures → Figures
settlement_booked amount f = with_settlement (f.settlement +ℤ amount) f

abbrev pub callback_booked : ℤ → Figures → Figures
callback_booked amount f = with_cash (f.cash -ℤ amount) f

-- an account is changed in one currency, and in no other
abbrev pub change_figures : (Figures → Figures) → Currency → AccountState → AccountState
change_figures change c a = with_figures a c (change (figures_in a c))

-- what a booking changes, by its kind
abbrev pub booking_change : Booking → Figures → Figures
booking_change (Deposit amount) = deposit_booked amount
booking_change (Settlement amount) = settlement_booked amount
booking_change (Limits limit excess) = with_limits limit excess
booking_change (Margin requirement non_cash) = with_margin requirement non_cash
booking_change (Callback callback) = callback_booked callback.amount
