-- How the first cause of refusal is found.
use Rattle.std.specs.Prelude.{ℕ, Bool, cond, not, List, [], ◌∷◌, ℤ, is_some, Some, None, Option}
use Rattle.money.specs.declared.cause.Cause.{Cause}
use Rattle.money.specs.declared.range.Range.{Range}
use Rattle.money.specs.Codes.{code_of}
use Rattle.money.specs.Currencies.{currency_of}
use Rattle.money.specs.Ranges.{within}
use Rattle.money.specs.Refusals.{Told, tells}

-- tests in their order, each with what is told where it applies: the first that applies is told
abbrev pub first_told : List (Bool × Told) → Option Told
first_told [] = None
first_told (test ∷ tests) = cond test.0 (Some test.1) (first_told tests)

abbrev pub is_none : {X : Type 0} → Option X → Bool
is_none o = not (is_some o)

abbrev pub outside : Range → ℤ → Bool
outside range x = not (within range x)

-- what a call tells of its code and its currency: each where it is well formed
abbrev pub tells_of : List ℕ → List ℕ → Cause → Told
tells_of code currency cause = tells cause (code_of code) (currency_of currency)

abbrev pub tells_currency : List ℕ → Cause → Told
tells_currency currency cause = tells cause None (currency_of currency)
