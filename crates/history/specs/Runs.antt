-- Runs: cut-offs, net payments, what is carried out, and conclusions.
use Rattle.std.specs.Prelude.{ℕ, ◌+◌, Bool, true, false, cond, not, ◌&&◌, ◌||◌, List, [], ◌∷◌, map, ℤ, pos, ◌+ℤ◌, ◌-ℤ◌, is_some, Some, None, Option, ◌==◌, int_lt, nat_eq, nat_le, unsigned_abs}
use Rattle.money.specs.declared.cause.AccountCause.TheVariants.{PastBound}
use Rattle.money.specs.declared.cause.BookCause.TheVariants.{RunOpen, OtherRun, CurrencyUnknown, OptimizationNumber, RateMissing, Full, NoNetDebit}
use Rattle.money.specs.declared.cause.Cause.TheVariants.{Book, Account}
use Rattle.money.specs.declared.code.Code.{Code}
use Rattle.money.specs.declared.currency.Currency.{Currency}
use Rattle.money.specs.Currencies.{currencies, currency_of, is_same}
use Rattle.money.specs.Options.{first_of}
use Rattle.money.specs.Ranges.{bound, optimization_range}
use Rattle.money.specs.Refusals.{Told, tells}
use Rattle.account.specs.declared.account.AccountState.{AccountState}
use Rattle.account.specs.declared.account.Figures.{Figures}
use Rattle.account.specs.declared.terms.Level.{Level}
use Rattle.account.specs.Accounts.{figures_in, with_all_figures}
use Rattle.determination.specs.declared.determination.Determination.{Determination}
use Rattle.determination.specs.Balances.{held_cash}
use Rattle.determination.specs.Determinations.{due, determination, amount_in, cash_with_call}
use Rattle.valuation.specs.Valuations.{Valuation}
use Rattle.determination.specs.Valuations.{Market}
use Rattle.history.specs.declared.optimization.OptimizationAccount.{OptimizationAccount}
use Rattle.history.specs.declared.run.OpenRun.{OpenRun}
use Rattle.history.specs.Calls.{FailedDebit, RunNumbers}
use Rattle.request.specs.Causes.{first_told, is_none, outside}
use Rattle.history.specs.States.{State, is_running, market_of, missing_rate}

-- CUT-OFFS

-- the first account by code whose call would lead past the bound, with its first such currency
abbrev pub past_bound_or : Code → Option Currency → Option (Code × Currency) → Option (Code × Currency)
past_bound_or code None others = others
past_bound_or code (Some c) others = Some (code, c)

abbrev pub first_past_bound : Valuation → Market → List AccountState → Option (Code × Currency)
first_past_bound v m [] = None
first_past_bound v m (a ∷ more) = past_bound_or a.code (first_of (λ c. int_lt bound (cash_with_call v m a c)) currencies) (first_past_bound v m more)

abbrev pub code_in : Option (Code × Currency) → Option Code
code_in None = None
code_in (Some p) = Some p.0

abbrev pub currency_in : Option (Code × Currency) → Option Currency
currency_in None = None
currency_in (Some p) = Some p.1

abbrev pub cut_off_refusal : Valuation → State → Option Told
cut_off_refusal v s =
    let past = first_past_bound v (market_of s) s.accounts in
    first_told (
    (is_running s, tells (Book RunOpen) None None)
    ∷ (is_some (missing_rate s), tells (Book RateMissing) None (missing_rate s))
    ∷ (nat_le 999999999 s.runs, tells (Book Full) None None)
    ∷ (is_some past, tells (Account PastBound) (code_in past) (currency_in past)) ∷ [])

-- a run is open, and what it determined is kept
abbrev pub with_run : Valuation → State → State
with_run v s = record {
  number = s.number;
  rates = s.rates;
  statuses = s.statuses;
  accounts = s.accounts;
  optimizations = s.optimizations;
  running = Some (record { number = s.runs + 1 });
  kept = map (determination v (market_of s)) s.accounts;
  runs = s.runs + 1;
}

-- NET PAYMENTS

-- the accounts, each with what was determined for it
abbrev pub entries : List AccountState → List Determination → List (AccountState × Determination)
entries [] ks = []
entries (a ∷ more) [] = []
entries (a ∷ more) (k ∷ ks) = (a, k) ∷ entries more ks

-- the net payment of an optimization account in a currency: the sum of its accounts' shares; positive is a debit
abbrev pub net_payment : List (AccountState × Determination) → ℕ → Currency → ℤ
net_payment [] n c = pos 0
net_payment (e ∷ es) n c = cond (e.0.optimization == n) (amount_in e.1.shares c) (pos 0) +ℤ net_payment es n c

abbrev pub is_currency : Currency → Option Currency → Bool
is_currency c None = false
is_currency c (Some d) = is_same c d

-- a failed debit names an optimization account and a currency; its number is in range wherever this is asked
abbrev pub names : ℕ → Currency → FailedDebit → Bool
names n c f = unsigned_abs f.number == n && is_currency c (currency_of f.currency)

-- the debit of an optimization account in a currency failed, or one of its debits in any currency
abbrev pub has_failed_in : List FailedDebit → ℕ → Currency → Bool
has_failed_in fs n c = is_some (first_of (names n c) fs)

abbrev pub has_failed : List FailedDebit → ℕ → Bool
has_failed fs n = is_some (first_of (λ f. nat_eq (unsigned_abs f.number) n) fs)

-- a net payment is carried out if its currency is open, it did not fail, and it is a debit or no debit of its optimization account failed
abbrev pub carried_out : Market → List (AccountState × Determination) → List FailedDebit → ℕ → Currency → Bool
carried_out m es fs n c = m.is_open c && not (has_failed_in fs n c) && (int_lt (pos 0) (net_payment es n c) || not (has_failed fs n))

-- CONCLUSIONS

abbrev pub is_of_run : State → Option OpenRun → Option RunNumbers → Bool
is_of_run s None run = false
is_of_run s (Some r) None = false
is_of_run s (Some r) (Some run) = run.book == s.number && run.run == r.number

abbrev pub no_debit_in : List (AccountState × Determination) → ℕ → Option Currency → Bool
no_debit_in es n None = true
no_debit_in es n (Some c) = not (int_lt (pos 0) (net_payment es n c))

abbrev pub has_no_net_debit : List (AccountState × Determination) → FailedDebit → Bool
has_no_net_debit es f = no_debit_in es (unsigned_abs f.number) (currency_of f.currency)

abbrev pub failed_currency : Option FailedDebit → Option Currency
failed_currency None = None
failed_currency (Some f) = currency_of f.currency

abbrev pub unknown_currency : FailedDebit → Bool
unknown_currency f = is_none (currency_of f.currency)

abbrev pub unknown_number : FailedDebit → Bool
unknown_number f = outside optimization_range f.number

abbrev pub conclusion_refusal : State → Option RunNumbers → List FailedDebit → Option Told
conclusion_refusal s run fs =
    let no_debit = first_of (has_no_net_debit (entries s.accounts s.kept)) fs in
    first_told (
    (not (is_of_run s s.running run), tells (Book OtherRun) None None)
    ∷ (is_some (first_of unknown_currency fs), tells (Book CurrencyUnknown) None None)
    ∷ (is_some (first_of unknown_number fs), tells (Book OptimizationNumber) None (failed_currency (first_of unknown_number fs)))
    ∷ (is_some no_debit, tells (Book NoNetDebit) None (failed_currency no_debit)) ∷ [])

-- where a net payment is carried out, held cash takes its call and repayment and nothing is open; else, at level 1,
-- the cover and what is due to the participant are booked and the rest stays due, and at level 2 nothing changes
abbrev pub concluded_figures : Level → Bool → ℤ → ℤ → Figures → Figures
concluded_figures level true call repayment f = record {
  cash = (held_cash level f +ℤ call) -ℤ repayment;
  settlement = pos 0;
  limit = f.limit;
  excess = f.excess;
  non_cash = f.non_cash;
  requirement = f.requirement;
}
concluded_figures level false call repayment f = record {
  cash = held_cash level f;
  settlement = due level f;
  limit = f.limit;
  excess = f.excess;
  non_cash = f.non_cash;
  requirement = f.requirement;
}

-- an account after a conclusion that carries out its payments in some currencies
abbrev pub concluded_account : (Currency → Bool) → AccountState × Determination → AccountState
concluded_account out e = with_all_figures e.0
    (map (λ c. concluded_figures e.0.level (out c) (amount_in e.1.calls c) (amount_in e.1.repayments c) (figures_in e.0 c)) currencies)

abbrev pub concluded_accounts : Market → List FailedDebit → List (AccountState × Determination) → List AccountState
concluded_accounts m fs es = map (λ e. concluded_account (carried_out m es fs e.0.optimization) e) es

-- stopped are the optimization accounts with a failed debit
abbrev pub stopped_by : List FailedDebit → OptimizationAccount → OptimizationAccount
stopped_by fs o = record { number = o.number; stopped = has_failed fs o.number }

abbrev pub with_conclusion : State → List FailedDebit → State
with_conclusion s fs = record {
  number = s.number;
  rates = s.rates;
  statuses = s.statuses;
  accounts = concluded_accounts (market_of s) fs (entries s.accounts s.kept);
  optimizations = map (stopped_by fs) s.optimizations;
  running = None;
  kept = [];
  runs = s.runs;
}
