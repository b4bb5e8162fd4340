-- The book as the trade sees it.
use Rattle.std.specs.Prelude.{ℕ, Bool, not, List, [], length, replicate, ℤ, pos, is_some, None, Option, slice_index_or}
use Rattle.std.specs.Option.{unwrap_or}
use Rattle.money.specs.declared.code.Code.{Code}
use Rattle.money.specs.declared.currency.Currency.{Currency}
use Rattle.money.specs.declared.status.Status.{Status}
use Rattle.money.specs.declared.status.Status.TheVariants.{Open}
use Rattle.money.specs.Currencies.{currencies, place}
use Rattle.money.specs.Options.{first_of}
use Rattle.money.specs.Statuses.{is_open_status}
use Rattle.account.specs.declared.account.AccountState.{AccountState}
use Rattle.account.specs.Accounts.{has_code}
use Rattle.determination.specs.declared.determination.Determination.{Determination}
use Rattle.determination.specs.Valuations.{Market}
use Rattle.history.specs.declared.optimization.OptimizationAccount.{OptimizationAccount}
use Rattle.history.specs.declared.run.OpenRun.{OpenRun}

pub record State : Type 0 where
  -- the book's own number
  pub number : ℕ
  -- the rate of each currency in book order, none before the first is given
  pub rates : List (Option ℤ)
  -- whether each currency is open, in book order
  pub statuses : List Status
  -- the accounts, ascending by code
  pub accounts : List AccountState
  -- the optimization accounts, ascending by number
  pub optimizations : List OptimizationAccount
  -- the run that is not concluded yet, and what it determined for each account
  pub running : Option OpenRun
  pub kept : List Determination
  -- how many runs were given out
  pub runs : ℕ

-- a new book has no accounts, no rates, all currencies open, and gave out no run
abbrev pub new_state : ℕ → State
new_state number = record {
  number = number;
  rates = replicate (length currencies) None;
  statuses = replicate (length currencies) Open;
  accounts = [];
  optimizations = [];
  running = None;
  kept = [];
  runs = 0;
}

abbrev pub is_running : State → Bool
is_running s = is_some s.running

abbrev pub rate_in : State → Currency → Option ℤ
rate_in s c = slice_index_or s.rates (place c) None

-- the rates and the open currencies that a determination is made by
abbrev pub market_of : State → Market
market_of s = record {
  rate = λ c. unwrap_or (rate_in s c) (pos 0);
  is_open = λ c. is_open_status (slice_index_or s.statuses (place c) Open);
}

-- the first currency in book order that has no rate
abbrev pub missing_rate : State → Option Currency
missing_rate s = first_of (λ c. not (is_some (rate_in s c))) currencies

-- the account that is held under a code
abbrev pub account_with : State → Code → Option AccountState
account_with s code = first_of (has_code code) s.accounts
