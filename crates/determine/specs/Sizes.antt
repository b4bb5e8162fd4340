-- Amounts of which several fit together into a number of the machine.
use Rattle.std.specs.Prelude.{List, ℤ, pos, ◌≤ℤ◌}
use Rattle.money.specs.declared.currency.Currency.{Currency}
use Rattle.determination.specs.Determinations.{amount_in}

pub record Small (x : ℤ) : Type 0 where
  pub low : pos 0 ≤ℤ x
  pub high : x ≤ℤ pos 20000000000000000

abbrev pub EachSmall : List ℤ → Type 0
EachSmall xs = (c : Currency) → Small (amount_in xs c)

-- amounts of which two are small together
pub record Few (x : ℤ) : Type 0 where
  pub low : pos 0 ≤ℤ x
  pub high : x ≤ℤ pos 8000000000001000

abbrev pub EachFew : List ℤ → Type 0
EachFew xs = (c : Currency) → Few (amount_in xs c)
