-- The calls that change rates, holidays and single accounts: what each is refused for, and what it changes.
use Rattle.std.specs.Prelude.{ℕ, Bool, false, cond, not, ◌&&◌, ◌||◌, List, [], ◌∷◌, length, ℤ, ◌+ℤ◌, is_some, Some, None, Option, ◌==◌, nat_le, nat_lt, slice_set, unsigned_abs}
use Rattle.money.specs.declared.cause.AccountCause.TheVariants.{OutOfRange, PastBound, PastCeiling}
use Rattle.money.specs.declared.cause.BookCause.TheVariants.{RunOpen, CodeForm, CodeHeld, CodeAbsent, CurrencyUnknown, OptimizationNumber, LevelOrSetting, PriorityForm, BaseNotAdmitted, RateMissing, Full, Stopped}
use Rattle.money.specs.declared.cause.Cause.TheVariants.{Book, Account}
use Rattle.money.specs.declared.code.Code.{Code}
use Rattle.money.specs.declared.currency.Currency.{Currency}
use Rattle.money.specs.declared.status.Status.{Status}
use Rattle.money.specs.Codes.{bytes_of, code_of}
use Rattle.money.specs.CodeOrders.{is_below}
use Rattle.money.specs.Currencies.{currency_of, place}
use Rattle.money.specs.Options.{first_of}
use Rattle.money.specs.Ranges.{rate_range, figure_range, settlement_range, payment_range, optimization_range}
use Rattle.money.specs.Refusals.{Told, tells}
use Rattle.money.specs.Statuses.{status_of}
use Rattle.account.specs.declared.account.AccountState.{AccountState}
use Rattle.account.specs.declared.account.Figures.{Figures}
use Rattle.account.specs.Accounts.{no_figures, figures_in, new_account, has_code}
use Rattle.account.specs.Bookings.{change_figures}
use Rattle.account.specs.Priorities.{priority_of}
use Rattle.account.specs.Terms.{level_of, setting_of}
use Rattle.request.specs.Causes.{first_told, is_none, outside, tells_of, tells_currency}
use Rattle.determination.specs.Standings.{within_ceilings}
use Rattle.valuation.specs.Valuations.{Valuation}
use Rattle.history.specs.declared.optimization.OptimizationAccount.{OptimizationAccount}
use Rattle.history.specs.States.{State, is_running, market_of, missing_rate, account_with}

-- the book with other parts
abbrev pub with_rates : State → List (Option ℤ) → State
with_rates s rates = record {
  number = s.number;
  rates = rates;
  statuses = s.statuses;
  accounts = s.accounts;
  optimizations = s.optimizations;
  running = s.running;
  kept = s.kept;
  runs = s.runs;
}

abbrev pub with_statuses : State → List Status → State
with_statuses s statuses = record {
  number = s.number;
  rates = s.rates;
  statuses = statuses;
  accounts = s.accounts;
  optimizations = s.optimizations;
  running = s.running;
  kept = s.kept;
  runs = s.runs;
}

abbrev pub with_accounts : State → List AccountState → List OptimizationAccount → State
with_accounts s accounts optimizations = record {
  number = s.number;
  rates = s.rates;
  statuses = s.statuses;
  accounts = accounts;
  optimizations = optimizations;
  running = s.running;
  kept = s.kept;
  runs = s.runs;
}

-- changed where something is there, else the same
abbrev pub or_same : {X : Type 0} → State → Option X → (X → State) → State
or_same s None change = s
or_same s (Some x) change = change x

-- RATES AND HOLIDAYS

-- what bars a rate, whatever the book
abbrev pub rate_faults : List ℕ → ℤ → List (Bool × Told)
rate_faults currency rate =
    (is_none (currency_of currency), tells_currency currency (Book CurrencyUnknown))
    ∷ (outside rate_range rate, tells_currency currency (Account OutOfRange)) ∷ []

abbrev pub rate_refusal : State → List ℕ → ℤ → Option Told
rate_refusal s currency rate = first_told ((is_running s, tells_currency currency (Book RunOpen)) ∷ rate_faults currency rate)

-- a rate takes the place of the old one
abbrev pub rate_set : State → List ℕ → ℤ → State
rate_set s currency rate = or_same s (currency_of currency) (λ c. with_rates s (slice_set s.rates (place c) (Some rate)))

-- what bars a holiday flag, whatever the book
abbrev pub holiday_faults : List ℕ → ℤ → List (Bool × Told)
holiday_faults currency flag =
    (is_none (currency_of currency), tells_currency currency (Book CurrencyUnknown))
    ∷ (is_none (status_of flag), tells_currency currency (Account OutOfRange)) ∷ []

abbrev pub holiday_refusal : State → List ℕ → ℤ → Option Told
holiday_refusal s currency flag = first_told ((is_running s, tells_currency currency (Book RunOpen)) ∷ holiday_faults currency flag)

abbrev pub holiday_set : State → List ℕ → ℤ → State
holiday_set s currency flag = or_same s (currency_of currency) (λ c. or_same s (status_of flag) (λ status. with_statuses s (slice_set s.statuses (place c) status)))

-- OPENINGS

-- the account that a text names by its code, if it is held
abbrev pub held_under : State → Option Code → Option AccountState
held_under s None = None
held_under s (Some code) = account_with s code

abbrev pub is_held : State → List ℕ → Bool
is_held s code = is_some (held_under s (code_of code))

abbrev pub has_number : ℕ → OptimizationAccount → Bool
has_number number o = o.number == number

abbrev pub is_in_use : State → ℕ → Bool
is_in_use s number = is_some (first_of (has_number number) s.optimizations)

-- 64 accounts are held, or 16 optimization numbers and the number is new
abbrev pub is_full : State → ℕ → Bool
is_full s number = nat_le 64 (length s.accounts) || (nat_le 16 (length s.optimizations) && not (is_in_use s number))

abbrev pub admits_base : Valuation → Option Currency → Bool
admits_base v None = false
admits_base v (Some base) = v.admits base

abbrev pub opening_refusal : Valuation → State → List ℕ → ℤ → List ℕ → ℤ → ℤ → List ℕ → Option Told
opening_refusal v s code number base level setting priority = first_told (
    (is_running s, tells_of code base (Book RunOpen))
    ∷ (is_none (code_of code), tells_of code base (Book CodeForm))
    ∷ (is_held s code, tells_of code base (Book CodeHeld))
    ∷ (is_none (currency_of base), tells_of code base (Book CurrencyUnknown))
    ∷ (outside optimization_range number, tells_of code base (Book OptimizationNumber))
    ∷ (is_none (level_of level) || is_none (setting_of setting), tells_of code base (Book LevelOrSetting))
    ∷ (is_none (priority_of priority), tells_of code base (Book PriorityForm))
    ∷ (not (admits_base v (currency_of base)), tells_of code base (Book BaseNotAdmitted))
    ∷ (is_full s (unsigned_abs number), tells_of code base (Book Full)) ∷ [])

-- an account is put before the first with a higher code
abbrev pub insert_account : AccountState → List AccountState → List AccountState
insert_account a [] = a ∷ []
insert_account a (b ∷ bs) = cond (is_below (bytes_of a.code) (bytes_of b.code)) (a ∷ b ∷ bs) (b ∷ insert_account a bs)

-- a new number is put before the first that is higher; it is not stopped
abbrev pub insert_number : ℕ → List OptimizationAccount → List OptimizationAccount
insert_number number [] = record { number = number; stopped = false } ∷ []
insert_number number (o ∷ os) =
    cond (o.number == number) (o ∷ os)
    (cond (nat_lt number o.number) (record { number = number; stopped = false } ∷ o ∷ os) (o ∷ insert_number number os))

abbrev pub with_opened : State → AccountState → State
with_opened s a = with_accounts s (insert_account a s.accounts) (insert_number a.optimization s.optimizations)

abbrev pub opened : State → List ℕ → ℤ → List ℕ → ℤ → ℤ → List ℕ → State
opened s code number base level setting priority =
    or_same s (code_of code) (λ k. or_same s (currency_of base) (λ b. or_same s (level_of level) (λ l. or_same s (setting_of setting) (λ d. or_same s (priority_of priority) (λ p.
    with_opened s (new_account k (unsigned_abs number) b l d p))))))

-- FIGURES OF AN ACCOUNT

-- the figures that a call speaks of; all 0 where there are none
abbrev pub figures_for : Option AccountState → Option Currency → Figures
figures_for None c = no_figures
figures_for (Some a) None = no_figures
figures_for (Some a) (Some c) = figures_in a c

abbrev pub figures_of : State → List ℕ → List ℕ → Figures
figures_of s code currency = figures_for (held_under s (code_of code)) (currency_of currency)

-- what every call on an account in a currency is refused for first
abbrev pub account_faults : State → List ℕ → List ℕ → List (Bool × Told) → Option Told
account_faults s code currency more = first_told (
    (is_running s, tells_of code currency (Book RunOpen))
    ∷ (is_none (code_of code), tells_of code currency (Book CodeForm))
    ∷ (not (is_held s code), tells_of code currency (Book CodeAbsent))
    ∷ (is_none (currency_of currency), tells_of code currency (Book CurrencyUnknown))
    ∷ more)

abbrev pub limits_faults : List ℕ → List ℕ → ℤ → ℤ → List (Bool × Told)
limits_faults code currency limit excess =
    (outside figure_range limit || outside figure_range excess, tells_of code currency (Account OutOfRange)) ∷ []

abbrev pub limits_refusal : State → List ℕ → List ℕ → ℤ → ℤ → Option Told
limits_refusal s code currency limit excess = account_faults s code currency (limits_faults code currency limit excess)

abbrev pub margin_faults : List ℕ → List ℕ → ℤ → ℤ → List (Bool × Told)
margin_faults code currency requirement non_cash =
    (outside figure_range requirement || outside figure_range non_cash, tells_of code currency (Account OutOfRange)) ∷ []

abbrev pub margin_refusal : State → List ℕ → List ℕ → ℤ → ℤ → Option Told
margin_refusal s code currency requirement non_cash = account_faults s code currency (margin_faults code currency requirement non_cash)

abbrev pub deposit_faults : State → List ℕ → List ℕ → ℤ → List (Bool × Told)
deposit_faults s code currency amount =
    (outside payment_range amount, tells_of code currency (Account OutOfRange))
    ∷ (outside figure_range ((figures_of s code currency).cash +ℤ amount), tells_of code currency (Account PastBound)) ∷ []

abbrev pub deposit_refusal : State → List ℕ → List ℕ → ℤ → Option Told
deposit_refusal s code currency amount = account_faults s code currency (deposit_faults s code currency amount)

abbrev pub settlement_faults : State → List ℕ → List ℕ → ℤ → List (Bool × Told)
settlement_faults s code currency amount =
    (outside settlement_range amount, tells_of code currency (Account OutOfRange))
    ∷ (outside settlement_range ((figures_of s code currency).settlement +ℤ amount), tells_of code currency (Account PastBound)) ∷ []

abbrev pub settlement_refusal : State → List ℕ → List ℕ → ℤ → Option Told
settlement_refusal s code currency amount = account_faults s code currency (settlement_faults s code currency amount)

abbrev pub is_stopped : State → Option AccountState → Bool
is_stopped s None = false
is_stopped s (Some a) = is_some (first_of (λ o. has_number a.optimization o && o.stopped) s.optimizations)

abbrev pub is_within_ceilings : Valuation → State → Option AccountState → Option Currency → ℤ → Bool
is_within_ceilings v s None c w = false
is_within_ceilings v s (Some a) None w = false
is_within_ceilings v s (Some a) (Some c) w = within_ceilings v (market_of s) a c w

abbrev pub callback_faults : Valuation → State → List ℕ → List ℕ → ℤ → List (Bool × Told)
callback_faults v s code currency amount =
    (outside payment_range amount, tells_of code currency (Account OutOfRange))
    ∷ (is_some (missing_rate s), tells (Book RateMissing) (code_of code) (missing_rate s))
    ∷ (is_stopped s (held_under s (code_of code)), tells_of code currency (Book Stopped))
    ∷ (not (is_within_ceilings v s (held_under s (code_of code)) (currency_of currency) amount), tells_of code currency (Account PastCeiling)) ∷ []

abbrev pub callback_refusal : Valuation → State → List ℕ → List ℕ → ℤ → Option Told
callback_refusal v s code currency amount = account_faults s code currency (callback_faults v s code currency amount)

-- the first that passes a test is changed, and no other
abbrev pub change_first : {X : Type 0} → (X → Bool) → (X → X) → List X → List X
change_first test change [] = []
change_first test change (x ∷ xs) = cond (test x) (change x ∷ xs) (x ∷ change_first test change xs)

-- the account that a call names is changed in its currency, and no other
abbrev pub booked : State → List ℕ → List ℕ → (Figures → Figures) → State
booked s code currency change = or_same s (code_of code) (λ k. or_same s (currency_of currency) (λ c.
    with_accounts s (change_first (has_code k) (change_figures change c) s.accounts) s.optimizations))

-- QUESTIONS

-- a standing is asked at any time
abbrev pub standing_refusal : State → List ℕ → Option Told
standing_refusal s code = first_told (
    (is_none (code_of code), tells (Book CodeForm) (code_of code) None)
    ∷ (not (is_held s code), tells (Book CodeAbsent) (code_of code) None)
    ∷ (is_some (missing_rate s), tells (Book RateMissing) (code_of code) (missing_rate s)) ∷ [])
