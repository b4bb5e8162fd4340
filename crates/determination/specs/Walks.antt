-- A walk through currencies that spends points. `take r c` is the amount taken in c while r points rest.
use Rattle.std.specs.Prelude.{cond, List, [], ◌∷◌, ℤ, pos, ◌-ℤ◌, ◌*ℤ◌}
use Rattle.std.specs.Int.{int_max}
use Rattle.money.specs.declared.currency.Currency.{Currency}
use Rattle.money.specs.Currencies.{is_same}

-- what rests after a currency, 0 at least
abbrev pub rest_after : (ℤ → Currency → ℤ) → (Currency → ℤ) → ℤ → Currency → ℤ
rest_after take rate r c = int_max (r -ℤ (take r c *ℤ rate c)) (pos 0)

-- what rests after all of them
abbrev pub rest_at_end : (ℤ → Currency → ℤ) → (Currency → ℤ) → List Currency → ℤ → ℤ
rest_at_end take rate [] r = r
rest_at_end take rate (c ∷ cs) r = rest_at_end take rate cs (rest_after take rate r c)

-- what rests when the walk comes to d
abbrev pub rest_at : (ℤ → Currency → ℤ) → (Currency → ℤ) → List Currency → ℤ → Currency → ℤ
rest_at take rate [] r d = r
rest_at take rate (c ∷ cs) r d = cond (is_same c d) r (rest_at take rate cs (rest_after take rate r c) d)

-- what the walk takes in d
abbrev pub taken : (ℤ → Currency → ℤ) → (Currency → ℤ) → List Currency → ℤ → Currency → ℤ
taken take rate cs r d = take (rest_at take rate cs r d) d
