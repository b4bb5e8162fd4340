-- Where an account stands, and what may be called back from it.
use Rattle.std.specs.Prelude.{Bool, ◌&&◌, ℤ, ◌-ℤ◌, ◌*ℤ◌, int_le}
use Rattle.money.specs.declared.currency.Currency.{Currency}
use Rattle.money.specs.Currencies.{currencies}
use Rattle.account.specs.declared.account.AccountState.{AccountState}
use Rattle.account.specs.Accounts.{figures_in}
use Rattle.account.specs.Amounts.{due_to_house, standing_amount}
use Rattle.valuation.specs.Valuations.{Valuation}
use Rattle.determination.specs.Valuations.{Market, worth}

abbrev pub standing_amount_in : AccountState → Currency → ℤ
standing_amount_in a c = standing_amount (figures_in a c)

-- an account stands at what its cash above the limit and its non-cash value above the requirement are worth
unfoldable pub standing : Valuation → Market → AccountState → ℤ
standing v m a = worth v m a.base (standing_amount_in a) currencies

-- the three ceilings of a callback: cash above the limit that is not due to the house, the amount that the account
-- stands on in that currency, and the standing
abbrev pub within_ceilings : Valuation → Market → AccountState → Currency → ℤ → Bool
within_ceilings v m a c w =
    int_le w (((figures_in a c).cash -ℤ (figures_in a c).limit) -ℤ due_to_house (figures_in a c))
    && int_le w (standing_amount_in a c)
    && int_le (w *ℤ m.rate c) (standing v m a)
