-- Facts of a book's life besides its law.
use Rattle.std.specs.Prelude.{◌≡◌, ℕ, ◌+◌, ◌≤◌, Bool, true, false, cond, List, [], ◌∷◌, ℤ, pos, ◌+ℤ◌, ◌≤ℤ◌, ◌<ℤ◌, Some, None, Option, ◌≢◌}
use Rattle.money.specs.declared.code.Code.{Code}
use Rattle.money.specs.declared.currency.Currency.{Currency}
use Rattle.money.specs.Codes.{code_of}
use Rattle.money.specs.Currencies.{currency_of}
use Rattle.money.specs.Refusals.{Told}
use Rattle.account.specs.declared.account.AccountState.{AccountState}
use Rattle.account.specs.Accounts.{figures_in, has_code}
use Rattle.account.specs.Amounts.{due_to_house}
use Rattle.determination.specs.Determinations.{total, repayment}
use Rattle.valuation.specs.Valuations.{Valuation, IsLawful}
use Rattle.history.specs.Bookings.{is_stopped}
use Rattle.history.specs.Calls.{Call, open_account, call_back, conclude, FailedDebit, RunNumbers}
use Rattle.history.specs.Histories.{Reached, determined, is_carried_out}
use Rattle.history.specs.Laws.{position_of}
use Rattle.history.specs.Runs.{net_payment, has_failed_in, has_failed}
use Rattle.history.specs.States.{State, market_of, account_with}
use Rattle.history.specs.Steps.{refused, step}

-- how many accounts are held under a code
abbrev pub holders : List AccountState → Code → ℕ
holders [] code = 0
holders (a ∷ more) code = cond (has_code code a) 1 0 + holders more code

-- the cash of an account in a currency covers its limit and all that is due to the house
abbrev pub CoversDue : AccountState → Currency → Type 0
CoversDue a c = ((figures_in a c).limit +ℤ due_to_house (figures_in a c)) ≤ℤ (figures_in a c).cash

-- its cash in a currency is at least its excess amount
abbrev pub CoversExcess : AccountState → Currency → Type 0
CoversExcess a c = (figures_in a c).excess ≤ℤ (figures_in a c).cash

-- What a conclusion of the book s, with these failed debits, leaves in the book t.
pub record ConclusionFacts (v : Valuation) (s : State) (failed : List FailedDebit) (t : State) : Type 0 where
  -- where a repayment above 0 was carried out, the excess amount is left in cash
  pub excess_left : (code : Code) (a b : AccountState) (c : Currency) → account_with s code ≡ Some a → account_with t code ≡ Some b → pos 0 <ℤ repayment v (market_of s) a c → is_carried_out v s failed a.optimization c ≡ true → CoversExcess b c
  -- a credit of an optimization account with a failed debit is not carried out: none of its accounts moves there
  pub credit_stays : (code : Code) (a : AccountState) (c : Currency) → account_with s code ≡ Some a → has_failed failed a.optimization ≡ true → net_payment (determined v s) a.optimization c ≤ℤ pos 0 → position_of t code c ≡ position_of s code c
  -- nor is a debit that failed
  pub failed_stays : (code : Code) (a : AccountState) (c : Currency) → account_with s code ≡ Some a → has_failed_in failed a.optimization c ≡ true → position_of t code c ≡ position_of s code c
  -- a debit that did not fail is, in an open currency: nothing stays due
  pub debit_paid : (code : Code) (a b : AccountState) (c : Currency) → account_with s code ≡ Some a → account_with t code ≡ Some b → (market_of s).is_open c ≡ true → has_failed_in failed a.optimization c ≡ false → pos 0 <ℤ net_payment (determined v s) a.optimization c → (figures_in b c).settlement ≡ pos 0
  -- no callback is granted to an account whose optimization account has a failed debit
  pub stops : (named currency : List ℕ) (amount : ℤ) (code : Code) (a : AccountState) → code_of named ≡ Some code → account_with t code ≡ Some a → has_failed failed a.optimization ≡ true → refused v t (call_back named currency amount) ≢ None
  -- an account whose optimization account has none is not stopped
  pub resumes : (code : Code) (a : AccountState) → account_with t code ≡ Some a → has_failed failed a.optimization ≡ false → is_stopped t (Some a) ≡ false

pub record BookFacts (v : Valuation) (s : State) : Type 0 where
  -- a refused call leaves the book as it was
  pub refused_stays : (call : Call) (told : Told) → refused v s call ≡ Some told → step v s call ≡ s
  -- after a callback that is granted, cash covers the limit and all that is due to the house
  pub called_back : (named currency : List ℕ) (amount : ℤ) (code : Code) (a : AccountState) (c : Currency) → refused v s (call_back named currency amount) ≡ None → code_of named ≡ Some code → currency_of currency ≡ Some c → account_with (step v s (call_back named currency amount)) code ≡ Some a → CoversDue a c
  -- what every conclusion leaves
  pub concluded : (run : Option RunNumbers) (failed : List FailedDebit) → refused v s (conclude run failed) ≡ None → ConclusionFacts v s failed (step v s (conclude run failed))
  -- no code that is held is opened again
  pub opened_once : (named : List ℕ) (number : ℤ) (base : List ℕ) (level setting : ℤ) (priority : List ℕ) (code : Code) (a : AccountState) → code_of named ≡ Some code → account_with s code ≡ Some a → refused v s (open_account named number base level setting priority) ≢ None
  -- and so no two accounts are held under one code
  pub held_once : (code : Code) → holders s.accounts code ≤ 1
  -- a total counts shut currencies as it does open ones
  pub shut_counts : (a : AccountState) (is_open : Currency → Bool) → total v (market_of s) a ≡ total v (record { rate = (market_of s).rate; is_open = is_open }) a

-- they hold of every book that has a history behind it, under every lawful valuation
abbrev pub EveryBookFact : Type 0
EveryBookFact = (v : Valuation) (number : ℕ) (history : List Call) (s : State) → IsLawful v → Reached v number history s → BookFacts v s
