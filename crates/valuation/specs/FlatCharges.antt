-- The flat charge of ten percent outside the base.
use Rattle.std.specs.Prelude.{ℕ, ◌+◌, ◌-◌, ◌*◌, ◌/◌, Bool, true, cond, ℤ}
use Rattle.money.specs.declared.currency.Currency.{Currency}
use Rattle.money.specs.Currencies.{is_same}
use Rattle.valuation.specs.Valuations.{Valuation}
use Rattle.valuation.specs.Counts.{limited, by_sign}

-- the charge on an absolute amount: 10/100 of it, rounded up
abbrev pub charge : ℕ → ℕ
charge n = (10 * n + 99) / 100

-- a surplus counts less its charge, a deficiency plus its charge
abbrev pub charged : ℤ → ℤ
charged = by_sign (λ n. n - charge n) (λ n. n + charge n)

-- only outside the base; in the base an amount counts as itself
abbrev pub charged_outside : Currency → Currency → ℤ → ℤ
charged_outside base currency x = cond (is_same base currency) x (charged x)

-- every base is admitted
abbrev pub flat_admits : Currency → Bool
flat_admits base = true

-- what an amount counts under the flat charge
unfoldable pub flat_count : Currency → Currency → ℤ → ℤ
flat_count = limited flat_admits charged_outside

-- as a valuation
abbrev pub flat_charge : Valuation
flat_charge = record { counts = flat_count; admits = flat_admits }
