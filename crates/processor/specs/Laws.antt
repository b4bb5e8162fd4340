-- What holds of every sheet, whatever its lines.
use Rattle.std.specs.Prelude.{◌≡◌, ℕ, cond, List, [], ◌∷◌, is_some}
use Rattle.valuation.specs.Valuations.{Valuation}
use Rattle.history.specs.States.{State}
use Rattle.records.specs.declared.record.Record.{Record}
use Rattle.records.specs.Admissions.{Admits}
use Rattle.processor.specs.Performances.{answer, after}

-- the book after some lines
abbrev pub after_all : Valuation → State → List (List ℕ) → State
after_all v s [] = s
after_all v s (line ∷ lines) = after_all v (after v s line) lines

-- those of the lines that are performed
abbrev pub performed : Valuation → State → List (List ℕ) → List (List ℕ)
performed v s [] = []
performed v s (line ∷ lines) = cond (is_some (answer v s line)) (performed v s lines) (line ∷ performed v (after v s line) lines)

-- each of them is a line that some sound record is written as
abbrev pub AllAdmitted : List (List ℕ) → Type 0
AllAdmitted [] = Unit {0}
AllAdmitted (line ∷ lines) = ((x : Record) × Admits line x) × AllAdmitted lines

-- Refused lines leave no trace: the performed lines alone make the same book of the one they start from,
-- none of them is refused on the way, and each is admitted.
pub record SheetLaw (v : Valuation) (s : State) (lines : List (List ℕ)) : Type 0 where
  pub traceless : after_all v s (performed v s lines) ≡ after_all v s lines
  pub unrefused : performed v s (performed v s lines) ≡ performed v s lines
  pub admitted : AllAdmitted (performed v s lines)
