-- The words in which valuations are written down.
use Rattle.std.specs.Prelude.{ℕ, suc, Bool, cond, ◌&&◌, ℤ, pos, negsuc, neg_ℤ, nat_le, unsigned_abs}
use Rattle.money.specs.declared.currency.Currency.{Currency}
use Rattle.valuation.specs.Laws.{largest}

-- whether an amount is not beyond the largest that counts
abbrev pub is_in_range : ℤ → Bool
is_in_range x = nat_le (unsigned_abs x) largest

-- counts as given where the base is admitted and the amount in range; all else counts zero
abbrev pub limited : (Currency → Bool) → (Currency → Currency → ℤ → ℤ) → Currency → Currency → ℤ → ℤ
limited admits counts base currency x = cond (admits base && is_in_range x) (counts base currency x) (pos 0)

-- a surplus counts by one rule and a deficiency by another, each on the absolute amount
abbrev pub by_sign : (ℕ → ℕ) → (ℕ → ℕ) → ℤ → ℤ
by_sign surplus deficiency (pos n) = pos (surplus n)
by_sign surplus deficiency (negsuc n) = neg_ℤ (pos (deficiency (suc n)))
