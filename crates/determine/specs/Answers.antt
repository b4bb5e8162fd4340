-- What the determination of an account answers, and what holds of it.
use Rattle.std.specs.Prelude.{◌≡◌, true, false, ℤ, pos, ◌+ℤ◌, ◌*ℤ◌, ◌≤ℤ◌, ◌<ℤ◌, Some, None, Ok, Err, Option, Result}
use Rattle.money.specs.declared.cause.AccountCause.TheVariants.{PastBound}
use Rattle.money.specs.declared.currency.Currency.{Currency}
use Rattle.money.specs.Currencies.{currencies}
use Rattle.money.specs.Options.{first_of}
use Rattle.money.specs.Ranges.{bound}
use Rattle.account.specs.declared.account.AccountState.{AccountState}
use Rattle.account.specs.Faults.{AccountFault}
use Rattle.account.specs.Amounts.{surplus_of, deficiency_of}
use Rattle.account.specs.Answers.{fault_on}
use Rattle.determination.specs.declared.determination.Determination.{Determination}
use Rattle.determination.specs.Determinations.{held_in, total, determination, amount_in, past_bound}
use Rattle.valuation.specs.Valuations.{Valuation}
use Rattle.determination.specs.Valuations.{Market, sum}
use Rattle.determine.specs.Listed.{calls_for, is_past_bound, determination_at}

-- the fault in a currency, if there is one, and else what was determined
abbrev pub unless_past : AccountState → Option Currency → Determination → Result Determination AccountFault
unless_past a None d = Ok d
unless_past a (Some c) d = Err (fault_on a c PastBound)

-- an account is determined unless a call leads past the bound, in a shut currency too
unfoldable pub determination_answer : Valuation → Market → AccountState → Result Determination AccountFault
determination_answer v m a = unless_past a (past_bound v m a) (determination v m a)

-- the same from the total alone, in lists
abbrev pub answer_at : Market → AccountState → ℤ → Result Determination AccountFault
answer_at m a t = unless_past a (first_of (is_past_bound a (calls_for a.setting m a (deficiency_of t))) currencies) (determination_at m a t)

-- what holds of the amounts of a determination, in every currency
pub record Determined (v : Valuation) (m : Market) (a : AccountState) (d : Determination) : Type 0 where
  -- nothing below 0 is called or repaid
  pub call_from_zero : (c : Currency) → pos 0 ≤ℤ amount_in d.calls c
  pub repayment_from_zero : (c : Currency) → pos 0 ≤ℤ amount_in d.repayments c
  -- where some currency is open, the calls are worth at least what is short
  pub calls_suffice : (c : Currency) → m.is_open c ≡ true → deficiency_of (total v m a) ≤ℤ sum (λ k. amount_in d.calls k *ℤ m.rate k) currencies
  -- the repayments are worth at most what is over
  pub repayments_within : sum (λ k. amount_in d.repayments k *ℤ m.rate k) currencies ≤ℤ surplus_of (total v m a)
  -- never both a call and a repayment
  pub never_both : (c k : Currency) → pos 0 <ℤ amount_in d.repayments c → amount_in d.calls k ≡ pos 0
  -- nothing is called, repaid or shared in a shut currency
  pub no_call_shut : (c : Currency) → m.is_open c ≡ false → amount_in d.calls c ≡ pos 0
  pub no_repayment_shut : (c : Currency) → m.is_open c ≡ false → amount_in d.repayments c ≡ pos 0
  pub no_share_shut : (c : Currency) → m.is_open c ≡ false → amount_in d.shares c ≡ pos 0
  -- no call leads past the bound
  pub payable : (c : Currency) → (held_in a c +ℤ amount_in d.calls c) ≤ℤ bound

-- it holds of what is answered
abbrev pub DeterminedBy : Valuation → Market → AccountState → Result Determination AccountFault → Type 0
DeterminedBy v m a (Ok d) = Determined v m a d
DeterminedBy v m a (Err fault) = Unit {0}
