-- What is looked at of an input, and how a sheet is read line by line.
use Rattle.std.specs.Prelude.{ℕ, ◌+◌, List, [], ◌∷◌, ◌++◌, take}

-- the first 65,536 bytes
unfoldable pub sheet_of : List ℕ → List ℕ
sheet_of input = take 65536 input

-- what a reader prints of some lines: from its state, after so many lines
abbrev pub printed_by : {S : Type 0} → (S → ℕ → List ℕ → List ℕ) → (S → List ℕ → S) → S → ℕ → List (List ℕ) → List ℕ
printed_by print next s n [] = []
printed_by print next s n (line ∷ lines) = print s (n + 1) line ++ printed_by print next (next s line) (n + 1) lines
