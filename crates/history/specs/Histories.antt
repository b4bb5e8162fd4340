-- Histories: a book's making and its calls after it, refused ones included; the newest call comes first.
use Rattle.std.specs.Prelude.{◌≡◌, ℕ, Bool, false, cond, List, [], ◌∷◌, map, ℤ, pos, ◌+ℤ◌, neg_ℤ, Some, None, Option}
use Rattle.std.specs.Str.{bytes_eq}
use Rattle.money.specs.declared.code.Code.{Code}
use Rattle.money.specs.declared.currency.Currency.{Currency}
use Rattle.money.specs.Codes.{bytes_of, code_of}
use Rattle.money.specs.Currencies.{currency_of}
use Rattle.money.specs.Refusals.{Told}
use Rattle.account.specs.declared.account.AccountState.{AccountState}
use Rattle.determination.specs.declared.determination.Determination.{Determination}
use Rattle.determination.specs.Determinations.{determination, share}
use Rattle.valuation.specs.Valuations.{Valuation}
use Rattle.history.specs.Calls.{Call, set_rate, set_holiday, open_account, set_limits, set_margin, deposit, settle, call_back, cut_off, conclude, ask_standing, FailedDebit}
use Rattle.history.specs.Runs.{is_currency, carried_out}
use Rattle.history.specs.States.{State, new_state, market_of, account_with}
use Rattle.history.specs.Steps.{refused, step}

-- the book that a history leaves
abbrev pub after : Valuation → ℕ → List Call → State
after v number [] = new_state number
after v number (call ∷ history) = step v (after v number history) call

-- a book has this history behind it
abbrev pub Reached : Valuation → ℕ → List Call → State → Type 0
Reached v number history s = s ≡ after v number history

-- the accounts, each with what a run determines for it
abbrev pub determined : Valuation → State → List (AccountState × Determination)
determined v s = map (λ a. (a, determination v (market_of s) a)) s.accounts

-- the net payment of an optimization account in a currency is carried out, by what the run determines
abbrev pub is_carried_out : Valuation → State → List FailedDebit → ℕ → Currency → Bool
is_carried_out v s failed number c = carried_out (market_of s) (determined v s) failed number c

abbrev pub is_code : Code → Option Code → Bool
is_code code None = false
is_code code (Some other) = bytes_eq (bytes_of other) (bytes_of code)

-- an amount that a call names for an account in a currency
abbrev pub amount_for : Code → Currency → List ℕ → List ℕ → ℤ → ℤ
amount_for code c named currency amount = cond (is_code code (code_of named)) (cond (is_currency c (currency_of currency)) amount (pos 0)) (pos 0)

abbrev pub share_carried_out : Valuation → State → List FailedDebit → Option AccountState → Currency → ℤ
share_carried_out v s failed None c = pos 0
share_carried_out v s failed (Some a) c = cond (is_carried_out v s failed a.optimization c) (share v (market_of s) a c) (pos 0)

-- what a call that is not refused pays in for an account in a currency; out, below 0
abbrev pub paid_in : Valuation → State → Call → Code → Currency → ℤ
paid_in v s (set_rate currency rate) code c = pos 0
paid_in v s (set_holiday currency flag) code c = pos 0
paid_in v s (open_account named number base level setting priority) code c = pos 0
paid_in v s (set_limits named currency limit excess) code c = pos 0
paid_in v s (set_margin named currency requirement non_cash) code c = pos 0
paid_in v s (deposit named currency amount) code c = amount_for code c named currency amount
paid_in v s (settle named currency amount) code c = amount_for code c named currency (neg_ℤ amount)
paid_in v s (call_back named currency amount) code c = amount_for code c named currency (neg_ℤ amount)
paid_in v s cut_off code c = pos 0
paid_in v s (conclude run failed) code c = share_carried_out v s failed (account_with s code) c
paid_in v s (ask_standing named) code c = pos 0

-- a refused call pays nothing
abbrev pub if_performed : Option Told → ℤ → ℤ
if_performed None x = x
if_performed (Some told) x = pos 0

-- what was paid in for an account in a currency over a whole history
abbrev pub tally : Valuation → ℕ → List Call → Code → Currency → ℤ
tally v number [] code c = pos 0
tally v number (call ∷ history) code c =
    tally v number history code c
    +ℤ if_performed (refused v (after v number history) call) (paid_in v (after v number history) call code c)
