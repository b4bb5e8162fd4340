-- Refused lines leave no trace.
use Rattle.std.proofs.Common.{◌≡◌, ℕ, cond, List, [], ◌∷◌, is_some, Some, None, Option, sym, refl, ap, ◌∙◌, subst}
use Rattle.money.specs.Refusals.{Told}
use Rattle.valuation.specs.Valuations.{Valuation}
use Rattle.history.specs.Steps.{changed, unless}
use Rattle.history.specs.States.{State}
use Rattle.lines.specs.Lines.{Line, parsed}
use Rattle.processor.specs.Performances.{call_of, answer_to, answer, after_one, after}
use Rattle.processor.specs.Laws.{after_all, performed, AllAdmitted, SheetLaw}
use Rattle.processor.proofs.Admitted.{admits}

-- a refused line leaves the book as it was
refused-same : (v : Valuation) (s : State) (o : Option Line) (t : Told) → answer_to v s o ≡ Some t → after_one v s o ≡ s
refused-same v s None t e = refl
refused-same v s (Some l) t e = ap (λ r. unless r s (changed v s (call_of l))) e

-- what holds of the lines after one, by whether that one is refused
pub law : (v : Valuation) (s : State) (lines : List (List ℕ)) → SheetLaw v s lines
law v s [] = record { traceless = refl; unrefused = refl; admitted = tt }
law v s (line ∷ lines) = by (answer v s line) refl (law v s lines) (law v (after v s line) lines)
  where
    by : (o : Option Told) → answer v s line ≡ o → SheetLaw v s lines → SheetLaw v (after v s line) lines → SheetLaw v s (line ∷ lines)
    by (Some t) is same next =
        let left : performed v s (line ∷ lines) ≡ performed v s lines = ap (λ o. cond (is_some o) (performed v s lines) (line ∷ performed v (after v s line) lines)) is in
        record {
          traceless = ap (after_all v s) left ∙ same.traceless ∙ ap (λ u. after_all v u lines) (sym (refused-same v s (parsed line) t is));
          unrefused = ap (performed v s) left ∙ same.unrefused ∙ sym left;
          admitted = subst AllAdmitted (sym left) same.admitted;
        }
    by None is same next =
        let rest = performed v (after v s line) lines in
        let taken : (ls : List (List ℕ)) → performed v s (line ∷ ls) ≡ line ∷ performed v (after v s line) ls = λ ls. ap (λ o. cond (is_some o) (performed v s ls) (line ∷ performed v (after v s line) ls)) is in
        record {
          traceless = ap (after_all v s) (taken lines) ∙ next.traceless;
          unrefused = ap (performed v s) (taken lines) ∙ taken rest ∙ ap (λ ls. line ∷ ls) next.unrefused ∙ sym (taken lines);
          admitted = subst AllAdmitted (sym (taken lines)) (admits v s line is, next.admitted);
        }
