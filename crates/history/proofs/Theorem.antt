-- Every book that has a history behind it keeps the law.
use Rattle.std.proofs.Common.{◌≡◌, ℕ, List, [], ◌∷◌, ◌+ℤ◌, Some, None, Option, sym, refl, ap, ◌∙◌, subst, arith}
use Rattle.money.specs.declared.code.Code.{Code}
use Rattle.money.specs.declared.currency.Currency.{Currency}
use Rattle.money.specs.Refusals.{Told}
use Rattle.valuation.specs.Valuations.{Valuation, IsLawful}
use Rattle.determination.proofs.DeterminationLaws.{every-determination}
use Rattle.history.specs.Calls.{Call, set_rate, set_holiday, open_account, set_limits, set_margin, deposit, settle, call_back, cut_off, conclude, ask_standing}
use Rattle.history.specs.Histories.{after, Reached, if_performed, paid_in, tally}
use Rattle.history.specs.Laws.{position_of, CallLaw, NewestLaw, BookLaw, EveryBook, EveryCall}
use Rattle.history.specs.States.{State}
use Rattle.history.specs.Steps.{refused, changed, unless, step}
use Rattle.history.proofs.Callbacks.{callback-law}
use Rattle.history.proofs.Concluded.{plus_none}
use Rattle.history.proofs.Concluding.{keeps-cut-off, keeps-conclusion}
use Rattle.history.proofs.Conservation.{moves, rises}
use Rattle.history.proofs.Invariant.{Invariant}
use Rattle.history.proofs.Keeping.{keeps-rate, keeps-holiday, keeps-opening, keeps-limits, keeps-margin, keeps-deposit, keeps-settlement, keeps-callback}
use Rattle.history.proofs.Standings.{conclusion-stands, conclusion-covers}

-- THE INVARIANT

keeps : (v : Valuation) (s : State) (call : Call) → IsLawful v → Invariant v s → refused v s call ≡ None → Invariant v (changed v s call)
keeps v s (set_rate currency rate) lawful inv e = keeps-rate v s currency rate inv e
keeps v s (set_holiday currency flag) lawful inv e = keeps-holiday v s currency flag inv e
keeps v s (open_account code number base level setting priority) lawful inv e = keeps-opening v s code number base level setting priority inv e
keeps v s (set_limits code currency limit excess) lawful inv e = keeps-limits v s code currency limit excess inv e
keeps v s (set_margin code currency requirement non_cash) lawful inv e = keeps-margin v s code currency requirement non_cash inv e
keeps v s (deposit code currency amount) lawful inv e = keeps-deposit v s code currency amount inv e
keeps v s (settle code currency amount) lawful inv e = keeps-settlement v s code currency amount inv e
keeps v s (call_back code currency amount) lawful inv e = keeps-callback v s code currency amount inv e
keeps v s cut_off lawful inv e = keeps-cut-off v s inv e
keeps v s (conclude run failed) lawful inv e = keeps-conclusion every-determination v s run failed lawful inv e
keeps v s (ask_standing code) lawful inv e = inv

pub invariant-after : (v : Valuation) (number : ℕ) (history : List Call) → IsLawful v → Invariant v (after v number history)
invariant-after v number [] lawful = record { sound = refl; admitted = refl; rates = refl; rate_for_each = refl; tied = λ e. let z : ◌≡◌ {A = ℕ} 0 1 = cc in absurd (omega arith) }
invariant-after v number (call ∷ history) lawful = by (after v number history) (refused v (after v number history) call) refl (invariant-after v number history lawful)
  where
    by : (s : State) (o : Option Told) → refused v s call ≡ o → Invariant v s → Invariant v (unless o s (changed v s call))
    by s None e inv = keeps v s call lawful inv e
    by s (Some told) e inv = inv

-- CONSERVATION

conserved : (v : Valuation) (number : ℕ) (history : List Call) → IsLawful v → (code : Code) (c : Currency) → position_of (after v number history) code c ≡ tally v number history code c
conserved v number [] lawful code c = refl
conserved v number (call ∷ history) lawful code c =
    by (after v number history) (refused v (after v number history) call) refl (invariant-after v number history lawful)
    ∙ ap (λ x. x +ℤ if_performed (refused v (after v number history) call) (paid_in v (after v number history) call code c)) (conserved v number history lawful code c)
  where
    by : (s : State) (o : Option Told) → refused v s call ≡ o → Invariant v s → position_of (unless o s (changed v s call)) code c ≡ position_of s code c +ℤ if_performed o (paid_in v s call code c)
    by s None e inv = moves v s call inv e code c
    by s (Some told) e inv = plus_none (position_of s code c)

-- THE NEWEST CALL

performed-law : (v : Valuation) (s : State) (call : Call) → IsLawful v → Invariant v s → refused v s call ≡ None → CallLaw v s call (changed v s call)
performed-law v s (set_rate currency rate) lawful inv e = tt
performed-law v s (set_holiday currency flag) lawful inv e = tt
performed-law v s (open_account code number base level setting priority) lawful inv e = tt
performed-law v s (set_limits code currency limit excess) lawful inv e = tt
performed-law v s (set_margin code currency requirement non_cash) lawful inv e = tt
performed-law v s (deposit code currency amount) lawful inv e = tt
performed-law v s (settle code currency amount) lawful inv e = tt
performed-law v s (call_back code currency amount) lawful inv e = callback-law v s code currency amount lawful inv e
performed-law v s cut_off lawful inv e = tt
performed-law v s (conclude run failed) lawful inv e = record {
  rises = rises v s run failed inv e;
  stands = conclusion-stands every-determination v s run failed lawful inv e;
  covered = conclusion-covers every-determination v s run failed lawful inv e;
}
performed-law v s (ask_standing code) lawful inv e = tt

newest : (v : Valuation) (number : ℕ) (history : List Call) → IsLawful v → NewestLaw v number history (after v number history)
newest v number [] lawful = tt
newest v number (call ∷ history) lawful = λ e.
    let s = after v number history in
    subst (CallLaw v s call) (ap (λ o. unless o s (changed v s call)) (sym e)) (performed-law v s call lawful (invariant-after v number history lawful) e)

-- THE LAW

pub every-book : EveryBook
every-book v number history s lawful reached =
    subst (BookLaw v number history) (sym reached) (record { conserved = conserved v number history lawful; newest = newest v number history lawful })

-- and every call extends the history behind a book
pub every_call : EveryCall
every_call v s t call lawful is number history reached =
    let goes : Reached v number (call ∷ history) t = is ∙ ap (λ s. step v s call) reached in
    (goes, every-book v number (call ∷ history) t lawful goes)
