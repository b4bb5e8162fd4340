-- Questions about an account: refused as it is not held, refused for more, or answered.
use Rattle.std.proofs.Common.{◌≡◌, ℕ, ◌<◌, Bool, cond, not, List, ◌++◌, map, length, get_or, is_some, Some, None, Err, Option, Result, sym, refl, ap, ◌∙◌, arith}
use Rattle.std.proofs.lemmas.List.{get_or-map}
use Rattle.std.specs.Result.{result_ok}
use Rattle.money.specs.declared.code.Code.{Code}
use Rattle.money.specs.declared.currency.Currency.{Currency}
use Rattle.money.specs.Options.{before}
use Rattle.money.specs.Refusals.{Told, refusal_of}
use Rattle.account.specs.declared.account.AccountState.{AccountState}
use Rattle.account.specs.declared.held.Account.{Account}
use Rattle.account.specs.Answers.{state_of}
use Rattle.request.specs.declared.fault.BookFault.{BookFault}
use Rattle.request.specs.Causes.{first_told, is_none}
use Rattle.request.specs.Faults.{told}
use Rattle.history.specs.Bookings.{held_under}
use Rattle.history.specs.States.{State, account_with}
use Rattle.book.specs.Places.{held_faults, HeldAt}
use Rattle.book.proofs.Booked.{passed}
use Rattle.book.proofs.Opened.{told-joined, either}

not-held : (s : State) (code : Option Code) (currency : Option Currency) (t : Told) → Some t ≡ first_told (held_faults s code currency) → held_under s code ≡ None
not-held s None currency t e = refl
not-held s (Some key) currency t e = by (account_with s key) _ e
  where
    by : (o : Option AccountState) (u : Told) → Some t ≡ cond (not (is_some o)) (Some u) None → o ≡ None
    by None u e = refl
    by (Some a) u e = let z : ◌≡◌ {A = ℕ} 0 1 = cc in absurd (omega arith)

module _ {X : Type 0} (s : State) (code : Option Code) (currency : Option Currency) (more : List (Bool × Told)) (answer : AccountState → Option X) where
  -- no account is held under the code
  pub asked-stopped : (f : BookFault) (r : Result X BookFault) → r ≡ Err f → Some (told f) ≡ first_told (held_faults s code currency) → (refusal_of told r ≡ first_told (held_faults s code currency ++ more)) × (result_ok r ≡ before (held_under s code) answer)
  asked-stopped f r is e = (
    ap (refusal_of told) is ∙ sym (told-joined (held_faults s code currency) more ∙ ap (λ o. either o (first_told more)) (sym e)),
    ap result_ok is ∙ sym (ap (λ o. before o answer) (not-held s code currency (told f) e)),
  )

  module _ (at : ℕ) (held : HeldAt s code at) where
    is_held : held_under s code ≡ Some held.lies.account
    is_held = ap (held_under s) held.is_code ∙ held.lies.found

    first : first_told (held_faults s code currency ++ more) ≡ first_told more
    first =
        passed (is_none code) _ _ (ap is_none held.is_code)
        ∙ passed (not (is_some (held_under s code))) _ _ (ap (λ o. not (is_some o)) is_held)

    -- one is, and there is more against the question
    pub asked-refused : (f : BookFault) (r : Result X BookFault) → r ≡ Err f → Some (told f) ≡ first_told more → ((a : AccountState) → answer a ≡ None) → (refusal_of told r ≡ first_told (held_faults s code currency ++ more)) × (result_ok r ≡ before (held_under s code) answer)
    asked-refused f r is e none = (
      ap (refusal_of told) is ∙ e ∙ sym first,
      ap result_ok is ∙ sym (ap (λ o. before o answer) is_held ∙ none held.lies.account),
    )

    -- or there is not
    pub asked-done : (x : X) → None ≡ first_told more → Some x ≡ answer held.lies.account → (None ≡ first_told (held_faults s code currency ++ more)) × (Some x ≡ before (held_under s code) answer)
    asked-done x e is = (e ∙ sym first, is ∙ sym (ap (λ o. before o answer) is_held))

-- the row at the place of an account is that account
pub row_lies : (rows : List Account) (at : ℕ) (x d : Account) (account : AccountState) → x ≡ get_or rows at d → at < length rows → ((a : AccountState) → get_or (map state_of rows) at a ≡ account) → state_of x ≡ account
row_lies rows at x d account here lt stands = ap state_of here ∙ sym (get_or-map state_of rows at d (state_of d) lt) ∙ stands (state_of d)
