-- What is printed of a refusal.
use Rattle.std.specs.Prelude.{ℕ, List, ◌++◌, codes, decimal}
use Rattle.money.specs.Refusals.{Told, shown_told}

-- X, the number of the line, and what the refusal tells
abbrev pub shown_refusal : ℕ → Told → List ℕ
shown_refusal line told = codes "X " ++ (decimal line ++ (codes " " ++ (shown_told told ++ codes "\n")))
