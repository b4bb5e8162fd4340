-- Amounts in each currency, as a function gives them.
use Rattle.std.specs.Prelude.{◌≡◌, ℤ}
use Rattle.money.specs.declared.currency.Currency.{Currency}
use Rattle.valuation.specs.Laws.{InRange}

-- whatever it gives is an amount that counts
abbrev pub EachInRange : (Currency → ℤ → Type 0) → Type 0
EachInRange gives = (c : Currency) (x : ℤ) → gives c x → InRange x

-- what it gives is given by t
abbrev pub Gives : (Currency → ℤ → Type 0) → (Currency → ℤ) → Type 0
Gives gives t = (c : Currency) (x : ℤ) → gives c x → x ≡ t c
