-- Records, and the lines that they stand for.
use Rattle.std.specs.Prelude.{ℕ, Bool, true, cond, ◌&&◌, List, [], ◌∷◌, ℤ, pos, Some, None, Ok, Err, Option, Result}
use Rattle.money.specs.declared.cause.AccountCause.TheVariants.{OutOfRange}
use Rattle.money.specs.declared.cause.BookCause.TheVariants.{CodeForm, CurrencyUnknown}
use Rattle.money.specs.declared.cause.Cause.TheVariants.{Book, Account}
use Rattle.money.specs.declared.code.Code.{Code}
use Rattle.money.specs.declared.currency.Currency.{Currency}
use Rattle.money.specs.declared.range.Range.{Range}
use Rattle.money.specs.Codes.{formed, bytes_of, code_of, shown_code}
use Rattle.money.specs.Currencies.{letters, currency_of}
use Rattle.money.specs.Options.{before}
use Rattle.money.specs.Ranges.{within, rate_range, settlement_range, payment_range, optimization_range}
use Rattle.money.specs.Refusals.{Told}
use Rattle.money.specs.Statuses.{flag_of, status_of}
use Rattle.account.specs.Checks.{are_figures}
use Rattle.account.specs.Priorities.{names_each_once, letters_all}
use Rattle.account.specs.Terms.{level_number, setting_number}
use Rattle.request.specs.declared.fault.BookFault.{BookFault}
use Rattle.request.specs.declared.fault.BookFault.TheVariants.{Own}
use Rattle.request.specs.Causes.{first_told, is_none, outside, tells_of}
use Rattle.request.specs.Openings.{Opened, terms_faults, terms_of}
use Rattle.history.specs.Bookings.{rate_faults, holiday_faults, limits_faults, margin_faults}
use Rattle.records.specs.declared.record.Record.{Record}
use Rattle.records.specs.declared.record.Opening.{Opening as OfOpening}
use Rattle.records.specs.declared.record.Record.TheVariants.{Rate, Holiday, Opening, Limits, Margin, Deposit, Settlement, Callback}
use Rattle.lines.specs.Lines.{Line, rate, holiday, opening, limits, margin, deposit, settlement, callback}

-- the line that a record stands for: a code is written by its characters, a priority by the letters of its currencies
abbrev pub line_of : Record → Line
line_of (Rate c x) = rate (letters c) x
line_of (Holiday c status) = holiday (letters c) (flag_of status)
line_of (Opening o) = opening (shown_code o.code) (pos o.number) (letters o.base) (level_number o.level) (setting_number o.setting) (letters_all o.priority)
line_of (Limits code c x y) = limits (shown_code code) (letters c) x y
line_of (Margin code c x y) = margin (shown_code code) (letters c) x y
line_of (Deposit code c x) = deposit (shown_code code) (letters c) x
line_of (Settlement code c x) = settlement (shown_code code) (letters c) x
line_of (Callback code c x) = callback (shown_code code) (letters c) x

abbrev pub well_formed : Code → Bool
well_formed code = formed (bytes_of code)

-- its code is well formed, its figures lie in their ranges, and its priority names each currency once
abbrev pub sound : Record → Bool
sound (Rate c x) = within rate_range x
sound (Holiday c status) = true
sound (Opening o) = well_formed o.code && within optimization_range (pos o.number) && names_each_once o.priority
sound (Limits code c x y) = well_formed code && are_figures x y
sound (Margin code c x y) = well_formed code && are_figures x y
sound (Deposit code c x) = well_formed code && within payment_range x
sound (Settlement code c x) = well_formed code && within settlement_range x
sound (Callback code c x) = well_formed code && within payment_range x

-- WHAT BARS A LINE

-- what bars a line on an account in a currency: its code and its currency, and then its figures
abbrev pub name_faults : List ℕ → List ℕ → List (Bool × Told) → List (Bool × Told)
name_faults code currency more =
    (is_none (code_of code), tells_of code currency (Book CodeForm))
    ∷ (is_none (currency_of currency), tells_of code currency (Book CurrencyUnknown)) ∷ more

abbrev pub range_faults : Range → List ℕ → List ℕ → ℤ → List (Bool × Told)
range_faults range code currency figure = (outside range figure, tells_of code currency (Account OutOfRange)) ∷ []

abbrev pub opening_faults : List ℕ → ℤ → List ℕ → ℤ → ℤ → List ℕ → List (Bool × Told)
opening_faults code number base level setting priority =
    (is_none (code_of code), tells_of code base (Book CodeForm)) ∷ terms_faults (code_of code) number (currency_of base) level setting priority

-- what bars a line in form: the first fault that its own fields have, whatever book it meets
abbrev pub barred_for : Line → Option Told
barred_for (rate k x) = first_told (rate_faults k x)
barred_for (holiday k x) = first_told (holiday_faults k x)
barred_for (opening c n b l s p) = first_told (opening_faults c n b l s p)
barred_for (limits c k x y) = first_told (name_faults c k (limits_faults c k x y))
barred_for (margin c k x y) = first_told (name_faults c k (margin_faults c k x y))
barred_for (deposit c k x) = first_told (name_faults c k (range_faults payment_range c k x))
barred_for (settlement c k x) = first_told (name_faults c k (range_faults settlement_range c k x))
barred_for (callback c k x) = first_told (name_faults c k (range_faults payment_range c k x))

-- the code and the currency that a line names, or the fault
abbrev pub names_by : Option Code → Option Currency → Result (Code × Currency) BookFault
names_by None currency = Err (Own (record { cause = CodeForm; code = None; currency = currency }))
names_by (Some code) None = Err (Own (record { cause = CurrencyUnknown; code = Some code; currency = None }))
names_by (Some code) (Some currency) = Ok (code, currency)

-- THE RECORD OF A LINE

-- a record on an account in a currency, if its figures pass their test
abbrev pub of_account : (Code → Currency → Record) → List ℕ → List ℕ → Bool → Option Record
of_account make code currency inside = before (code_of code) (λ c. before (currency_of currency) (λ k. cond inside (Some (make c k)) None))

-- an opening under a code on these terms
abbrev pub opened_by : Code → Opened → OfOpening
opened_by code t = record { code = code; number = t.number; base = t.base; level = t.level; setting = t.setting; priority = t.priority }

abbrev pub of_opening : List ℕ → ℤ → List ℕ → ℤ → ℤ → List ℕ → Option Record
of_opening code number base level setting priority =
    before (code_of code) (λ c. before (terms_of number (currency_of base) level setting priority) (λ t.
    Some (Opening (opened_by c t))))

-- the record of a line that nothing bars
abbrev pub record_of : Line → Option Record
record_of (rate k x) = before (currency_of k) (λ c. cond (within rate_range x) (Some (Rate c x)) None)
record_of (holiday k x) = before (currency_of k) (λ c. before (status_of x) (λ status. Some (Holiday c status)))
record_of (opening c n b l s p) = of_opening c n b l s p
record_of (limits c k x y) = of_account (λ c k. Limits c k x y) c k (are_figures x y)
record_of (margin c k x y) = of_account (λ c k. Margin c k x y) c k (are_figures x y)
record_of (deposit c k x) = of_account (λ c k. Deposit c k x) c k (within payment_range x)
record_of (settlement c k x) = of_account (λ c k. Settlement c k x) c k (within settlement_range x)
record_of (callback c k x) = of_account (λ c k. Callback c k x) c k (within payment_range x)
