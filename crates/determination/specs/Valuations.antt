-- What amounts are worth.
use Rattle.std.specs.Prelude.{Bool, List, [], ◌∷◌, ℤ, pos, ◌+ℤ◌, ◌*ℤ◌}
use Rattle.money.specs.declared.currency.Currency.{Currency}
use Rattle.valuation.specs.Valuations.{Valuation}

-- the rate of each currency, and which are open
pub record Market : Type 0 where
  pub rate : Currency → ℤ
  pub is_open : Currency → Bool

abbrev pub sum : (Currency → ℤ) → List Currency → ℤ
sum f [] = pos 0
sum f (c ∷ cs) = f c +ℤ sum f cs

-- the value in points of amounts in some currencies: each counts under the base, at its rate
abbrev pub worth : Valuation → Market → Currency → (Currency → ℤ) → List Currency → ℤ
worth v m base amount cs = sum (λ c. v.counts base c (amount c) *ℤ m.rate c) cs
