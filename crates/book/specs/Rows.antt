-- The rows of a book in memory.
use Rattle.std.specs.Prelude.{ℕ, List, map}
use Rattle.money.specs.declared.code.Code.{Code}
use Rattle.account.specs.declared.held.Account.{Account}
use Rattle.account.specs.Answers.{state_of}
use Rattle.history.specs.declared.optimization.OptimizationAccount.{OptimizationAccount}

-- the codes of some accounts
abbrev pub codes_of : List Account → List Code
codes_of rows = map (λ a. (state_of a).code) rows

-- the numbers of some optimization accounts
abbrev pub numbers_of : List OptimizationAccount → List ℕ
numbers_of rows = map (λ o. o.number) rows
