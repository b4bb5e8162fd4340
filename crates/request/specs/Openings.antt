-- The terms of an account as its opening gives them.
use Rattle.std.specs.Prelude.{ℕ, Bool, cond, ◌||◌, List, [], ◌∷◌, ℤ, Some, None, Ok, Err, Option, Result, unsigned_abs}
use Rattle.money.specs.declared.cause.BookCause.TheVariants.{CurrencyUnknown, OptimizationNumber, LevelOrSetting, PriorityForm}
use Rattle.money.specs.declared.cause.Cause.TheVariants.{Book}
use Rattle.money.specs.declared.code.Code.{Code}
use Rattle.money.specs.declared.currency.Currency.{Currency}
use Rattle.money.specs.Options.{before}
use Rattle.money.specs.Ranges.{within, optimization_range}
use Rattle.money.specs.Refusals.{Told, tells}
use Rattle.account.specs.declared.terms.DebitSetting.{DebitSetting}
use Rattle.account.specs.declared.terms.Level.{Level}
use Rattle.account.specs.Priorities.{priority_of}
use Rattle.account.specs.Terms.{level_of, setting_of}
use Rattle.request.specs.declared.fault.BookFault.{BookFault}
use Rattle.request.specs.declared.opening.Terms.{Terms}
use Rattle.request.specs.declared.subject.Subject.{Subject}
use Rattle.request.specs.Causes.{is_none, outside}
use Rattle.request.specs.Subjects.{fault_of}

-- what bars the terms of an opening, whatever the book; each is told with the code and the base
abbrev pub terms_faults : Option Code → ℤ → Option Currency → ℤ → ℤ → List ℕ → List (Bool × Told)
terms_faults code number base level setting priority =
    (is_none base, tells (Book CurrencyUnknown) code base)
    ∷ (outside optimization_range number, tells (Book OptimizationNumber) code base)
    ∷ (is_none (level_of level) || is_none (setting_of setting), tells (Book LevelOrSetting) code base)
    ∷ (is_none (priority_of priority), tells (Book PriorityForm) code base) ∷ []

-- the number of an optimization account, or the fault
abbrev pub number_answer : Subject → ℤ → Result ℕ BookFault
number_answer s number = cond (within optimization_range number) (Ok (unsigned_abs number)) (Err (fault_of s OptimizationNumber))

-- the terms, with the priority as a plain list
pub record Opened : Type 0 where
  pub number : ℕ
  pub base : Currency
  pub level : Level
  pub setting : DebitSetting
  pub priority : List Currency

abbrev pub opens : ℕ → Currency → Level → DebitSetting → List Currency → Opened
opens number base level setting priority = record { number = number; base = base; level = level; setting = setting; priority = priority }

-- the terms that the fields of an opening give, if nothing bars them
abbrev pub terms_of : ℤ → Option Currency → ℤ → ℤ → List ℕ → Option Opened
terms_of number base level setting priority =
    before base (λ b. cond (within optimization_range number)
    (before (level_of level) (λ l. before (setting_of setting) (λ d. before (priority_of priority) (λ p.
    Some (opens (unsigned_abs number) b l d p))))) None)

abbrev pub terms_in : Result Terms BookFault → Option Opened
terms_in (Ok t) = Some (opens t.number t.base t.level t.setting t.priority.order)
terms_in (Err f) = None
