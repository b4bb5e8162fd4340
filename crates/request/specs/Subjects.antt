-- What a call names.
use Rattle.std.specs.Prelude.{ℕ, List, Some, None, Result}
use Rattle.std.specs.Option.{ok_or}
use Rattle.money.specs.declared.cause.BookCause.{BookCause}
use Rattle.money.specs.declared.cause.BookCause.TheVariants.{CodeForm, CurrencyUnknown}
use Rattle.money.specs.declared.code.Code.{Code}
use Rattle.money.specs.declared.currency.Currency.{Currency}
use Rattle.money.specs.Codes.{code_of}
use Rattle.money.specs.Currencies.{currency_of}
use Rattle.request.specs.declared.fault.BookFault.{BookFault}
use Rattle.request.specs.declared.fault.BookFault.TheVariants.{Own}
use Rattle.request.specs.declared.subject.Subject.{Subject}

-- the code and the currency of a call, each where it is well formed
abbrev pub subject_of : List ℕ → List ℕ → Subject
subject_of code currency = record { code = code_of code; currency = currency_of currency }

abbrev pub currency_subject : List ℕ → Subject
currency_subject currency = record { code = None; currency = currency_of currency }

abbrev pub code_subject : List ℕ → Subject
code_subject code = record { code = code_of code; currency = None }

abbrev pub with_currency : Subject → Currency → Subject
with_currency s currency = record { code = s.code; currency = Some currency }

-- a fault tells what the call names
abbrev pub fault_of : Subject → BookCause → BookFault
fault_of s cause = Own (record { cause = cause; code = s.code; currency = s.currency })

abbrev pub code_answer : Subject → Result Code BookFault
code_answer s = ok_or s.code (fault_of s CodeForm)

abbrev pub currency_answer : Subject → Result Currency BookFault
currency_answer s = ok_or s.currency (fault_of s CurrencyUnknown)
