-- The calls of a book, with their arguments as they came in.
use Rattle.std.specs.Prelude.{ℕ, List, ℤ, Option}

-- a failed debit: an optimization number and a currency
pub record FailedDebit : Type 0 where
  pub number : ℤ
  pub currency : List ℕ

-- a run by its book and its number
pub record RunNumbers : Type 0 where
  pub book : ℕ
  pub run : ℕ

pub data Call : Type 0 where
  -- currency and rate, or holiday flag
  set_rate : List ℕ → ℤ → Call
  set_holiday : List ℕ → ℤ → Call
  -- code, optimization number, base, level, setting, priority
  open_account : List ℕ → ℤ → List ℕ → ℤ → ℤ → List ℕ → Call
  -- code, currency, limit and excess, or requirement and non-cash value
  set_limits : List ℕ → List ℕ → ℤ → ℤ → Call
  set_margin : List ℕ → List ℕ → ℤ → ℤ → Call
  -- code, currency, amount
  deposit : List ℕ → List ℕ → ℤ → Call
  settle : List ℕ → List ℕ → ℤ → Call
  call_back : List ℕ → List ℕ → ℤ → Call
  cut_off : Call
  -- the run that is concluded, if there is one, and its failed debits
  conclude : Option RunNumbers → List FailedDebit → Call
  -- a question for the standing of an account
  ask_standing : List ℕ → Call
