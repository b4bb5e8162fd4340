-- The lending norms.
use Rattle.std.specs.Prelude.{ℕ, ◌*◌, ◌/◌, Bool, List, [], ◌∷◌, ℤ, is_some, Some, None, Option, slice_index, slice_index_or}
use Rattle.money.specs.declared.currency.Currency.{Currency}
use Rattle.money.specs.Currencies.{place}
use Rattle.valuation.specs.Valuations.{Valuation}
use Rattle.valuation.specs.Counts.{limited, by_sign}

-- The norms in percent: a row for each base and in it a norm for each currency, both in book order.
-- A base with no row is not admitted.
abbrev pub norms : List (Option (List ℕ))
norms =
    Some (100 ∷ 96 ∷ 95 ∷ 95 ∷ 96 ∷ 94 ∷ []) ∷  -- GBP
    None ∷  -- DKK
    Some (95 ∷ 99 ∷ 100 ∷ 94 ∷ 96 ∷ 95 ∷ []) ∷  -- EUR
    Some (95 ∷ 94 ∷ 94 ∷ 100 ∷ 95 ∷ 93 ∷ []) ∷  -- NOK
    None ∷  -- SEK
    Some (94 ∷ 95 ∷ 95 ∷ 93 ∷ 95 ∷ 100 ∷ []) ∷  -- USD
    []

-- the row of a base, if it has one
abbrev pub row_of : Currency → Option (List ℕ)
row_of base = slice_index_or norms (place base) None

-- the bases with a row are admitted
abbrev pub norm_admits : Currency → Bool
norm_admits base = is_some (row_of base)

-- the norm of a currency in a row; without a row no surplus counts
abbrev pub norm_in : Option (List ℕ) → Currency → ℕ
norm_in None currency = 0
norm_in (Some row) currency = slice_index row (place currency)

abbrev pub norm_of : Currency → Currency → ℕ
norm_of base currency = norm_in (row_of base) currency

-- a surplus counts at its norm, rounded down; a deficiency counts in full
abbrev pub at_norm : ℕ → ℤ → ℤ
at_norm norm = by_sign (λ n. norm * n / 100) (λ n. n)

-- each currency at its own norm under the base
abbrev pub at_its_norm : Currency → Currency → ℤ → ℤ
at_its_norm base currency = at_norm (norm_of base currency)

-- what an amount counts under the lending norms
unfoldable pub norm_count : Currency → Currency → ℤ → ℤ
norm_count = limited norm_admits at_its_norm

-- as a valuation
abbrev pub lending_norms : Valuation
lending_norms = record { counts = norm_count; admits = norm_admits }
