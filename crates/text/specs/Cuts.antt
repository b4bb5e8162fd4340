-- Bytes, cut at a mark.
use Rattle.std.specs.Prelude.{◌≡◌, ℕ, false, cond, List, [], ◌∷◌, Some, None, Option, ◌==◌}
use Rattle.std.specs.Borrow.{Bor}

-- one byte more before the mark
abbrev pub onto : ℕ → Option (List ℕ × List ℕ) → Option (List ℕ × List ℕ)
onto c None = None
onto c (Some p) = Some (c ∷ p.0, p.1)

-- what stands before and after the first mark
abbrev pub cut_at : ℕ → List ℕ → Option (List ℕ × List ℕ)
cut_at m [] = None
cut_at m (c ∷ cs) = cond (c == m) (Some ([], cs)) (onto c (cut_at m cs))

-- no byte of it is the mark
abbrev pub Free : ℕ → List ℕ → Type 0
Free m [] = Unit {0}
Free m (c ∷ cs) = ((c == m) ≡ false) × Free m cs

-- two parts of a text, as bytes
abbrev pub held : Option (Bor (List ℕ) × Bor (List ℕ)) → Option (List ℕ × List ℕ)
held None = None
held (Some p) = Some (p.0.now, p.1.now)
