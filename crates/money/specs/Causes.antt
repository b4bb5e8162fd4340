-- The causes of refusal, each with its number and its layer.
use Rattle.std.specs.Prelude.{ℕ, List, codes}
use Rattle.money.specs.declared.cause.Layer.{Layer}
use Rattle.money.specs.declared.cause.Layer.TheVariants as layers
use Rattle.money.specs.declared.cause.BookCause.{BookCause}
use Rattle.money.specs.declared.cause.BookCause.TheVariants.{RunOpen, OtherRun, CodeForm, CodeHeld, CodeAbsent, CurrencyUnknown, OptimizationNumber, LevelOrSetting, PriorityForm, BaseNotAdmitted, RateMissing, Full, Stopped, NoNetDebit}
use Rattle.money.specs.declared.cause.AccountCause.{AccountCause}
use Rattle.money.specs.declared.cause.AccountCause.TheVariants.{OutOfRange, PastBound, PastCeiling}
use Rattle.money.specs.declared.cause.Cause.{Cause}
use Rattle.money.specs.declared.cause.Cause.TheVariants.{LineForm, Book, Account}

abbrev pub book_number : BookCause → ℕ
book_number RunOpen = 2
book_number OtherRun = 3
book_number CodeForm = 4
book_number CodeHeld = 5
book_number CodeAbsent = 6
book_number CurrencyUnknown = 7
book_number OptimizationNumber = 8
book_number LevelOrSetting = 9
book_number PriorityForm = 10
book_number BaseNotAdmitted = 11
book_number RateMissing = 13
book_number Full = 14
book_number Stopped = 16
book_number NoNetDebit = 18

abbrev pub account_number : AccountCause → ℕ
account_number OutOfRange = 12
account_number PastBound = 15
account_number PastCeiling = 17

abbrev pub number : Cause → ℕ
number LineForm = 1
number (Book cause) = book_number cause
number (Account cause) = account_number cause

abbrev pub layer : Cause → Layer
layer LineForm = layers.Sheet
layer (Book cause) = layers.Book
layer (Account cause) = layers.Account

abbrev pub layer_name : Layer → List ℕ
layer_name layers.Sheet = codes "sheet"
layer_name layers.Book = codes "book"
layer_name layers.Account = codes "account"
