-- What a run determines for one account.
use Rattle.std.specs.Prelude.{cond, List, map, ℤ, pos, ◌+ℤ◌, ◌-ℤ◌, Option, int_lt, slice_index_or}
use Rattle.money.specs.declared.currency.Currency.{Currency}
use Rattle.money.specs.Currencies.{currencies, place}
use Rattle.money.specs.Options.{first_of}
use Rattle.money.specs.Ranges.{bound}
use Rattle.account.specs.declared.account.AccountState.{AccountState}
use Rattle.account.specs.declared.account.Figures.{Figures}
use Rattle.account.specs.declared.terms.DebitSetting.{DebitSetting}
use Rattle.account.specs.declared.terms.DebitSetting.TheVariants.{MarginCurrency, BaseCurrency}
use Rattle.account.specs.declared.terms.Level.{Level}
use Rattle.account.specs.declared.terms.Level.TheVariants.{MarginRequirement, CashOptimization}
use Rattle.account.specs.Accounts.{figures_in}
use Rattle.account.specs.Amounts.{surplus_of, deficiency_of, due_to_house}
use Rattle.determination.specs.declared.determination.Determination.{Determination}
use Rattle.determination.specs.Balances.{cover, held_cash, balance, room}
use Rattle.determination.specs.Calls.{call_by_margin, call_in_base, repayment_by}
use Rattle.valuation.specs.Valuations.{Valuation}
use Rattle.determination.specs.Valuations.{Market, worth}

abbrev pub balance_in : AccountState → Currency → ℤ
balance_in a c = balance a.level (figures_in a c)

abbrev pub held_in : AccountState → Currency → ℤ
held_in a c = held_cash a.level (figures_in a c)

abbrev pub room_in : AccountState → Currency → ℤ
room_in a c = room a.level (figures_in a c)

-- the total: what the balances are worth
unfoldable pub total : Valuation → Market → AccountState → ℤ
total v m a = worth v m a.base (balance_in a) currencies

-- the call in a currency where r points are short, by the account's setting
abbrev pub call_for : DebitSetting → Market → AccountState → ℤ → Currency → ℤ
call_for MarginCurrency m a r c = call_by_margin m (balance_in a) a.priority r c
call_for BaseCurrency m a r c = call_in_base m a.base a.priority r c

-- a total below 0 is called
unfoldable pub call : Valuation → Market → AccountState → Currency → ℤ
call v m a c = call_for a.setting m a (deficiency_of (total v m a)) c

-- a total above 0 is repaid
unfoldable pub repayment : Valuation → Market → AccountState → Currency → ℤ
repayment v m a c = repayment_by m (balance_in a) (room_in a) a.priority (surplus_of (total v m a)) c

-- what is due before calls and repayments: at level 1 what is not covered, at level 2 all open settlement
abbrev pub due : Level → Figures → ℤ
due MarginRequirement f = due_to_house f -ℤ cover MarginRequirement f
due CashOptimization f = f.settlement

abbrev pub due_in : AccountState → Currency → ℤ
due_in a c = due a.level (figures_in a c)

-- the share in the net payment; 0 where the currency is shut
abbrev pub share : Valuation → Market → AccountState → Currency → ℤ
share v m a c = cond (m.is_open c) ((due a.level (figures_in a c) +ℤ call v m a c) -ℤ repayment v m a c) (pos 0)

unfoldable pub determination : Valuation → Market → AccountState → Determination
determination v m a = record {
  calls = map (call v m a) currencies;
  repayments = map (repayment v m a) currencies;
  shares = map (share v m a) currencies;
}

-- one figure of a determination
abbrev pub amount_in : List ℤ → Currency → ℤ
amount_in xs c = slice_index_or xs (place c) (pos 0)

-- the cash that a run would lead to before anything is repaid: it may not pass the bound
abbrev pub cash_with_call : Valuation → Market → AccountState → Currency → ℤ
cash_with_call v m a c = held_in a c +ℤ call v m a c

-- the first currency in book order where it does pass the bound, shut ones too
abbrev pub past_bound : Valuation → Market → AccountState → Option Currency
past_bound v m a = first_of (λ c. int_lt bound (cash_with_call v m a c)) currencies
