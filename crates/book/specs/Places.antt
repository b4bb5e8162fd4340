-- Where an account lies in a book.
use Rattle.std.specs.Prelude.{◌≡◌, ℕ, ◌<◌, Bool, false, not, List, [], ◌∷◌, length, is_some, Some, None, Option, slice_index_or, slice_set}
use Rattle.money.specs.declared.cause.BookCause.TheVariants.{CodeForm, CodeAbsent}
use Rattle.money.specs.declared.cause.Cause.TheVariants.{Book}
use Rattle.money.specs.declared.code.Code.{Code}
use Rattle.money.specs.declared.currency.Currency.{Currency}
use Rattle.money.specs.Codes.{code_of}
use Rattle.money.specs.Currencies.{currency_of}
use Rattle.money.specs.Options.{first_of}
use Rattle.money.specs.Refusals.{Told, tells}
use Rattle.account.specs.declared.account.AccountState.{AccountState}
use Rattle.account.specs.Accounts.{has_code}
use Rattle.request.specs.Causes.{is_none}
use Rattle.history.specs.Bookings.{change_first, held_under}
use Rattle.history.specs.States.{State, is_running}

-- the account with a code lies at a place: it is the one that is found, and to change it is to change that place
pub record LiesAt (accounts : List AccountState) (code : Code) (at : ℕ) : Type 0 where
  pub account : AccountState
  pub within : at < length accounts
  pub stands : (d : AccountState) → slice_index_or accounts at d ≡ account
  pub found : first_of (has_code code) accounts ≡ Some account
  pub changes : (change : AccountState → AccountState) → change_first (has_code code) change accounts ≡ slice_set accounts at (change account)

-- the place of a code, or none where no account has it
abbrev pub PlaceOf : List AccountState → Code → Option ℕ → Type 0
PlaceOf accounts code None = first_of (has_code code) accounts ≡ None
PlaceOf accounts code (Some at) = LiesAt accounts code at

-- what bars a call from naming an account that is held, whatever else it names
abbrev pub held_faults : State → Option Code → Option Currency → List (Bool × Told)
held_faults s code currency =
    (is_none code, tells (Book CodeForm) code currency)
    ∷ (not (is_some (held_under s code)), tells (Book CodeAbsent) code currency) ∷ []

-- the account that is named lies at a place
pub record HeldAt (s : State) (code : Option Code) (at : ℕ) : Type 0 where
  pub key : Code
  pub is_code : code ≡ Some key
  pub lies : LiesAt s.accounts key at

-- a call names an account at a place and a currency, and no run is open
pub record Located (s : State) (code currency : List ℕ) (at : ℕ) (unit : Currency) : Type 0 where
  pub held : HeldAt s (code_of code) at
  pub is_currency : currency_of currency ≡ Some unit
  pub idle : is_running s ≡ false
