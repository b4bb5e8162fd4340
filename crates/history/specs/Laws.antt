-- The law of a book's life.
use Rattle.std.specs.Prelude.{◌≡◌, ℕ, true, false, cond, List, [], ◌∷◌, ℤ, pos, ◌+ℤ◌, ◌-ℤ◌, ◌≤ℤ◌, ◌<ℤ◌, Some, None, ◌==◌}
use Rattle.money.specs.declared.code.Code.{Code}
use Rattle.money.specs.declared.currency.Currency.{Currency}
use Rattle.money.specs.Codes.{code_of}
use Rattle.money.specs.Currencies.{currency_of}
use Rattle.account.specs.declared.account.AccountState.{AccountState}
use Rattle.account.specs.declared.account.Figures.{Figures}
use Rattle.account.specs.Accounts.{figures_in}
use Rattle.determination.specs.Determinations.{repayment}
use Rattle.determination.specs.Standings.{standing}
use Rattle.valuation.specs.Valuations.{Valuation, IsLawful}
use Rattle.history.specs.Bookings.{figures_for}
use Rattle.history.specs.Calls.{Call, set_rate, set_holiday, open_account, set_limits, set_margin, deposit, settle, call_back, cut_off, conclude, ask_standing, FailedDebit}
use Rattle.history.specs.Histories.{after, Reached, determined, is_carried_out, tally}
use Rattle.history.specs.Runs.{net_payment, has_failed}
use Rattle.history.specs.States.{State, market_of, account_with}
use Rattle.history.specs.Steps.{refused, step}

-- cash less open settlement
abbrev pub position : Figures → ℤ
position f = f.cash -ℤ f.settlement

-- of the account that is held under a code; 0 where none is
abbrev pub position_of : State → Code → Currency → ℤ
position_of s code c = position (figures_for (account_with s code) (Some c))

-- summed over the accounts of an optimization account
abbrev pub joint_position : List AccountState → ℕ → Currency → ℤ
joint_position [] number c = pos 0
joint_position (a ∷ more) number c = cond (a.optimization == number) (position (figures_in a c)) (pos 0) +ℤ joint_position more number c

-- an account stands at zero or above
abbrev pub Stands : Valuation → State → AccountState → Type 0
Stands v s a = pos 0 ≤ℤ standing v (market_of s) a

-- its cash in a currency is at least its limit
abbrev pub CoversLimit : AccountState → Currency → Type 0
CoversLimit a c = (figures_in a c).limit ≤ℤ (figures_in a c).cash

abbrev pub AllOpen : State → Type 0
AllOpen s = (c : Currency) → (market_of s).is_open c ≡ true

-- What a conclusion of the book s, with these failed debits, leaves in the book t.
pub record ConclusionLaw (v : Valuation) (s : State) (failed : List FailedDebit) (t : State) : Type 0 where
  -- an optimization account rises by its net payment, or by 0 if that is not carried out
  pub rises : (number : ℕ) (c : Currency) → joint_position t.accounts number c ≡ joint_position s.accounts number c +ℤ cond (is_carried_out v s failed number c) (net_payment (determined v s) number c) (pos 0)
  -- with every currency open, each account whose optimization account has no failed debit stands at zero or above
  pub stands : AllOpen s → (code : Code) (a : AccountState) → account_with t code ≡ Some a → has_failed failed a.optimization ≡ false → Stands v t a
  -- an account to which a repayment above 0 was carried out stands at zero or above, and covers its limit there
  pub covered : (code : Code) (a b : AccountState) (c : Currency) → account_with s code ≡ Some a → account_with t code ≡ Some b → pos 0 <ℤ repayment v (market_of s) a c → is_carried_out v s failed a.optimization c ≡ true → Stands v t b × CoversLimit b c

-- What a callback that was granted leaves in the book t: the account stands at zero or above, and covers its limit there.
pub record CallbackLaw (v : Valuation) (named : List ℕ) (currency : List ℕ) (t : State) : Type 0 where
  pub covered : (code : Code) (a : AccountState) (c : Currency) → code_of named ≡ Some code → currency_of currency ≡ Some c → account_with t code ≡ Some a → Stands v t a × CoversLimit a c

-- what a call that was not refused leaves
abbrev pub CallLaw : Valuation → State → Call → State → Type 0
CallLaw v s (set_rate currency rate) t = Unit {0}
CallLaw v s (set_holiday currency flag) t = Unit {0}
CallLaw v s (open_account code number base level setting priority) t = Unit {0}
CallLaw v s (set_limits code currency limit excess) t = Unit {0}
CallLaw v s (set_margin code currency requirement non_cash) t = Unit {0}
CallLaw v s (deposit code currency amount) t = Unit {0}
CallLaw v s (settle code currency amount) t = Unit {0}
CallLaw v s (call_back code currency amount) t = CallbackLaw v code currency t
CallLaw v s cut_off t = Unit {0}
CallLaw v s (conclude run failed) t = ConclusionLaw v s failed t
CallLaw v s (ask_standing code) t = Unit {0}

abbrev pub NewestLaw : Valuation → ℕ → List Call → State → Type 0
NewestLaw v number [] t = Unit {0}
NewestLaw v number (call ∷ history) t = refused v (after v number history) call ≡ None → CallLaw v (after v number history) call t

-- The law: in every account and currency cash less open settlement is what was paid in, and the newest call left what it should.
pub record BookLaw (v : Valuation) (number : ℕ) (history : List Call) (s : State) : Type 0 where
  pub conserved : (code : Code) (c : Currency) → position_of s code c ≡ tally v number history code c
  pub newest : NewestLaw v number history s

-- with this call, every history behind s is behind t, and t keeps the law
abbrev pub Extends : Valuation → State → Call → State → Type 0
Extends v s call t = (number : ℕ) (history : List Call) → Reached v number history s → Reached v number (call ∷ history) t × BookLaw v number (call ∷ history) t

-- every book that has a history behind it keeps the law, under every lawful valuation
abbrev pub EveryBook : Type 0
EveryBook = (v : Valuation) (number : ℕ) (history : List Call) (s : State) → IsLawful v → Reached v number history s → BookLaw v number history s

-- a call of such a book adds to the history behind it, and the book after it keeps the law
abbrev pub EveryCall : Type 0
EveryCall = (v : Valuation) (s t : State) (call : Call) → IsLawful v → t ≡ step v s call → Extends v s call t
