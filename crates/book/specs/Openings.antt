-- Openings, and the room that they need.
use Rattle.std.specs.Prelude.{◌≡◌, ℕ, Bool, false, not, List, [], ◌∷◌, ◌++◌, length, ℤ, is_some, Some, None, Option, nat_le, unsigned_abs}
use Rattle.money.specs.declared.cause.BookCause.TheVariants.{RunOpen, CodeForm, CodeHeld, BaseNotAdmitted, Full}
use Rattle.money.specs.declared.cause.Cause.TheVariants.{Book}
use Rattle.money.specs.declared.code.Code.{Code}
use Rattle.money.specs.declared.currency.Currency.{Currency}
use Rattle.money.specs.Refusals.{Told, tells}
use Rattle.account.specs.declared.account.AccountState.{AccountState}
use Rattle.account.specs.Accounts.{new_account}
use Rattle.account.specs.Priorities.{priority_of}
use Rattle.account.specs.Terms.{level_of, setting_of}
use Rattle.request.specs.Causes.{is_none}
use Rattle.request.specs.Openings.{terms_faults}
use Rattle.valuation.specs.Valuations.{Valuation}
use Rattle.history.specs.Bookings.{admits_base, held_under, is_full}
use Rattle.history.specs.States.{State, is_running, account_with}

-- 64 accounts are held
abbrev pub is_full_of_accounts : State → Bool
is_full_of_accounts s = nat_le 64 (length s.accounts)

-- 16 optimization numbers are in use
abbrev pub is_full_of_numbers : State → Bool
is_full_of_numbers s = nat_le 16 (length s.optimizations)

-- what bars an opening before its terms are looked at: an open run, the form of the code, and a code that is held
abbrev pub code_faults : State → Option Code → Option Currency → List (Bool × Told)
code_faults s code base =
    (is_running s, tells (Book RunOpen) code base)
    ∷ (is_none code, tells (Book CodeForm) code base)
    ∷ (is_some (held_under s code), tells (Book CodeHeld) code base) ∷ []

-- and after them: a base that is not admitted, and want of room
abbrev pub room_faults : Valuation → State → Option Code → Option Currency → ℕ → List (Bool × Told)
room_faults v s code base number =
    (not (admits_base v base), tells (Book BaseNotAdmitted) code base)
    ∷ (is_full s number, tells (Book Full) code base) ∷ []

-- a code that an account can be opened under
abbrev pub IsFree : State → Option Code → Code → Type 0
IsFree s text code = (text ≡ Some code) × (account_with s code ≡ None)

-- all that an opening is refused for, in its order
abbrev pub opening_faults : Valuation → State → Option Code → ℤ → Option Currency → ℤ → ℤ → List ℕ → List (Bool × Told)
opening_faults v s code number base level setting priority =
    code_faults s code base ++ (terms_faults code number base level setting priority ++ room_faults v s code base (unsigned_abs number))

-- an opening that nothing stands against opens this account
pub record Opens (s : State) (code : Option Code) (number : ℤ) (base : Option Currency) (level setting : ℤ) (priority : List ℕ) (a : AccountState) : Type 0 where
  pub is_code : code ≡ Some a.code
  pub is_number : unsigned_abs number ≡ a.optimization
  pub is_base : base ≡ Some a.base
  pub is_level : level_of level ≡ Some a.level
  pub is_setting : setting_of setting ≡ Some a.setting
  pub is_priority : priority_of priority ≡ Some a.priority
  pub is_new : a ≡ new_account a.code a.optimization a.base a.level a.setting a.priority
  pub absent : account_with s a.code ≡ None
  pub room : is_full s a.optimization ≡ false
