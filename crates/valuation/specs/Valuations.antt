-- What a valuation means.
use Rattle.std.specs.Prelude.{Bool, ℤ}
use Rattle.money.specs.declared.currency.Currency.{Currency}
use Rattle.valuation.specs.Laws.{Lawful}

-- a valuation by its two meanings: what an amount counts under a base, and which bases are admitted
pub record Valuation : Type 0 where
  pub counts : Currency → Currency → ℤ → ℤ
  pub admits : Currency → Bool

-- it keeps the laws of valuations
abbrev pub IsLawful : Valuation → Type 0
IsLawful v = Lawful v.counts v.admits
