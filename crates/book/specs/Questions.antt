-- Questions that a book answers at any time.
use Rattle.std.specs.Prelude.{ℕ, Bool, List, [], ◌∷◌, ◌++◌, Option}
use Rattle.std.specs.Option.{option_map}
use Rattle.money.specs.declared.cause.BookCause.TheVariants.{CurrencyUnknown}
use Rattle.money.specs.declared.cause.Cause.TheVariants.{Book}
use Rattle.money.specs.Codes.{code_of}
use Rattle.money.specs.Currencies.{currency_of}
use Rattle.money.specs.Options.{before}
use Rattle.money.specs.Refusals.{Told}
use Rattle.account.specs.declared.account.AccountState.{AccountState}
use Rattle.account.specs.declared.account.Figures.{Figures}
use Rattle.account.specs.Accounts.{figures_in}
use Rattle.request.specs.Causes.{first_told, is_none, tells_of}
use Rattle.history.specs.Bookings.{held_under}
use Rattle.history.specs.States.{State}
use Rattle.book.specs.Places.{held_faults}

-- besides an account that is held, a question for figures names a currency
abbrev pub currency_faults : List ℕ → List ℕ → List (Bool × Told)
currency_faults code currency = (is_none (currency_of currency), tells_of code currency (Book CurrencyUnknown)) ∷ []

abbrev pub figures_refusal : State → List ℕ → List ℕ → Option Told
figures_refusal s code currency = first_told (held_faults s (code_of code) (currency_of currency) ++ currency_faults code currency)

-- the figures of an account in the currency that a text names
abbrev pub figures_named : List ℕ → AccountState → Option Figures
figures_named currency a = option_map (figures_in a) (currency_of currency)

abbrev pub figures_answer : State → List ℕ → List ℕ → Option Figures
figures_answer s code currency = before (held_under s (code_of code)) (figures_named currency)
