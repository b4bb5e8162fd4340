-- What holds of every determination, under every lawful valuation.
use Rattle.std.specs.Prelude.{◌≡◌, Bool, true, false, cond, pos, ◌+ℤ◌, ◌-ℤ◌, ◌*ℤ◌, ◌≤ℤ◌, ◌<ℤ◌}
use Rattle.money.specs.declared.currency.Currency.{Currency}
use Rattle.money.specs.Currencies.{currencies}
use Rattle.money.specs.Ranges.{bound, within, rate_range}
use Rattle.account.specs.declared.account.AccountState.{AccountState}
use Rattle.account.specs.Accounts.{sound}
use Rattle.account.specs.Amounts.{surplus_of, deficiency_of}
use Rattle.determination.specs.Determinations.{balance_in, room_in, total, call, repayment, cash_with_call}
use Rattle.valuation.specs.Valuations.{Valuation, IsLawful}
use Rattle.determination.specs.Valuations.{Market, sum, worth}

-- an account as it can be, under a base that is admitted, with every rate in its range
pub record Determinable (v : Valuation) (m : Market) (a : AccountState) : Type 0 where
  pub rated : (c : Currency) → within rate_range (m.rate c) ≡ true
  pub admitted : v.admits a.base ≡ true
  pub sound : sound a ≡ true

-- no call leads past the bound
abbrev pub Payable : Valuation → Market → AccountState → Type 0
Payable v m a = (c : Currency) → cash_with_call v m a c ≤ℤ bound

pub record DeterminationLaw (v : Valuation) (m : Market) (a : AccountState) : Type 0 where
  -- nothing below 0 is called or repaid
  pub call_from_zero : (c : Currency) → pos 0 ≤ℤ call v m a c
  pub repayment_from_zero : (c : Currency) → pos 0 ≤ℤ repayment v m a c
  -- nothing is called or repaid in a shut currency
  pub no_call_shut : (c : Currency) → m.is_open c ≡ false → call v m a c ≡ pos 0
  pub no_repayment_shut : (c : Currency) → m.is_open c ≡ false → repayment v m a c ≡ pos 0
  -- only an account that is over is repaid
  pub only_over_repaid : (c : Currency) → pos 0 <ℤ repayment v m a c → pos 0 <ℤ total v m a
  -- never both a call and a repayment
  pub never_both : (c d : Currency) → pos 0 <ℤ repayment v m a c → call v m a d ≡ pos 0
  -- a repayment leaves the limit and the excess amount
  pub leaves_room : (c : Currency) → pos 0 <ℤ repayment v m a c → repayment v m a c ≤ℤ room_in a c
  -- where some currency is open, the calls are worth at least what is short
  pub calls_suffice : (c : Currency) → m.is_open c ≡ true → deficiency_of (total v m a) ≤ℤ sum (λ d. call v m a d *ℤ m.rate d) currencies
  -- the repayments are worth at most what is over
  pub repayments_within : sum (λ d. repayment v m a d *ℤ m.rate d) currencies ≤ℤ surplus_of (total v m a)
  -- where nothing is short, what is left of the balances is worth zero or more, whichever currencies are repaid
  pub repaid_stands : pos 0 ≤ℤ total v m a → (paid : Currency → Bool) → pos 0 ≤ℤ worth v m a.base (λ c. balance_in a c -ℤ cond (paid c) (repayment v m a c) (pos 0)) currencies
  -- with every currency open, the balances are worth zero or more once the calls are paid
  pub called_stands : ((c : Currency) → m.is_open c ≡ true) → Payable v m a → pos 0 ≤ℤ worth v m a.base (λ c. (balance_in a c +ℤ call v m a c) -ℤ repayment v m a c) currencies

-- the law holds of every account
abbrev pub EveryDetermination : Type 0
EveryDetermination = (v : Valuation) (m : Market) (a : AccountState) → IsLawful v → Determinable v m a → DeterminationLaw v m a
