-- The lines of a sheet. A line keeps its line feed, and a rest without one is a line too.
use Rattle.std.specs.Prelude.{◌≡◌, ℕ, ◌<◌, cond, List, [], ◌∷◌, length, Some, None, Option, ◌==◌}
use Rattle.text.specs.declared.row.Lines.{Lines}

-- one byte more before the first line
abbrev pub onto_first : ℕ → List (List ℕ) → List (List ℕ)
onto_first c [] = (c ∷ []) ∷ []
onto_first c (l ∷ ls) = (c ∷ l) ∷ ls

abbrev pub rows : List ℕ → List (List ℕ)
rows [] = []
rows (c ∷ cs) = cond (c == 10) ((c ∷ []) ∷ rows cs) (onto_first c (rows cs))

-- the first line of a sheet and what follows it; an empty sheet has none
abbrev pub First : List ℕ → Option (List ℕ × List ℕ) → Type 0
First sheet None = length sheet ≡ 0
First sheet (Some p) = (rows sheet ≡ p.0 ∷ rows p.1) × (length p.1 < length sheet)

-- the lines that an iterator has left, and their bytes
abbrev pub left : Lines → List (List ℕ)
left l = rows l.rest.now

abbrev pub bytes_left : Lines → ℕ
bytes_left l = length l.rest.now
