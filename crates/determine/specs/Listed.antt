-- The amounts of a determination for each currency, in book order, where r points are short or over.
use Rattle.std.specs.Prelude.{Bool, cond, List, map, ℤ, pos, ◌+ℤ◌, ◌-ℤ◌, int_lt}
use Rattle.money.specs.declared.currency.Currency.{Currency}
use Rattle.money.specs.Currencies.{currencies}
use Rattle.money.specs.Ranges.{bound}
use Rattle.account.specs.declared.account.AccountState.{AccountState}
use Rattle.account.specs.declared.terms.DebitSetting.{DebitSetting}
use Rattle.account.specs.declared.terms.DebitSetting.TheVariants.{MarginCurrency, BaseCurrency}
use Rattle.account.specs.Amounts.{surplus_of, deficiency_of}
use Rattle.determination.specs.declared.determination.Determination.{Determination}
use Rattle.determination.specs.Calls.{call_by_margin, call_in_base, repayment_by}
use Rattle.determination.specs.Determinations.{balance_in, held_in, room_in, due_in, amount_in}
use Rattle.determination.specs.Valuations.{Market}

unfoldable pub calls_by_margin : Market → AccountState → ℤ → List ℤ
calls_by_margin m a r = map (call_by_margin m (balance_in a) a.priority r) currencies

unfoldable pub calls_in_base : Market → AccountState → ℤ → List ℤ
calls_in_base m a r = map (call_in_base m a.base a.priority r) currencies

abbrev pub calls_for : DebitSetting → Market → AccountState → ℤ → List ℤ
calls_for MarginCurrency m a r = calls_by_margin m a r
calls_for BaseCurrency m a r = calls_in_base m a r

unfoldable pub repayments_by : Market → AccountState → ℤ → List ℤ
repayments_by m a r = map (repayment_by m (balance_in a) (room_in a) a.priority r) currencies

-- the share in a currency, from its call and its repayment
unfoldable pub share_of : Market → AccountState → List ℤ → List ℤ → Currency → ℤ
share_of m a calls repayments c = cond (m.is_open c) ((due_in a c +ℤ amount_in calls c) -ℤ amount_in repayments c) (pos 0)

unfoldable pub shares_of : Market → AccountState → List ℤ → List ℤ → List ℤ
shares_of m a calls repayments = map (share_of m a calls repayments) currencies

-- whether held cash and the call would pass the bound
abbrev pub is_past_bound : AccountState → List ℤ → Currency → Bool
is_past_bound a calls c = int_lt bound (held_in a c +ℤ amount_in calls c)

-- all of them, where the total is t
abbrev pub determination_at : Market → AccountState → ℤ → Determination
determination_at m a t = record {
  calls = calls_for a.setting m a (deficiency_of t);
  repayments = repayments_by m a (surplus_of t);
  shares = shares_of m a (calls_for a.setting m a (deficiency_of t)) (repayments_by m a (surplus_of t));
}
