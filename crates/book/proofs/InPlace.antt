-- One account changed in its place.
use Rattle.std.proofs.Common.{◌≡◌, ℕ, zero, suc, ◌<◌, List, [], ◌∷◌, map, length, get_or, set, Ok, Err, Result, sym, refl, ap, ◌∙◌}
use Rattle.std.proofs.Math.Seq.{set-get_or, map-set}
use Rattle.std.proofs.lemmas.List.{get_or-map}
use Rattle.account.specs.declared.account.AccountState.{AccountState}
use Rattle.account.specs.Faults.{AccountFault}
use Rattle.account.specs.declared.held.Account.{Account}
use Rattle.account.specs.Answers.{state_of, chosen}
use Rattle.history.specs.Bookings.{with_accounts}
use Rattle.history.specs.States.{State}
use Rattle.book.specs.Bookings.{with_row}

-- where one of a list is changed and f of it stays, f of the list stays
pub map_same : {X Y : Type 0} (f : X → Y) (xs : List X) (i : ℕ) (d y : X) → f y ≡ f (get_or xs i d) → map f (set xs i y) ≡ map f xs
map_same f [] i d y e = refl
map_same {Y = Y} f (z ∷ xs) zero d y e = ap (λ (v : Y). v ∷ map f xs) e
map_same {Y = Y} f (z ∷ xs) (suc i) d y e = ap (λ (vs : List Y). f z ∷ vs) (map_same f xs i d y e)

-- the account x at a place became y, by what its call answered
module _ (rows : List Account) (at : ℕ) (x y : Account) (lt : at < length rows) (here : x ≡ get_or rows at x) where
  row_is : (d : AccountState) → get_or (map state_of rows) at d ≡ state_of x
  row_is d = get_or-map state_of rows at x d lt ∙ ap state_of (sym here)

  pub answer-is : {R : Type 0} (answer : AccountState → R) (r : R) → r ≡ answer (state_of x) → (d : AccountState) → r ≡ answer (get_or (map state_of rows) at d)
  answer-is answer r e d = e ∙ ap answer (sym (row_is d))

  module _ (change : AccountState → AccountState) where
    pub codes-stay : ((a : AccountState) → (change a).code ≡ a.code) → (r : Result Unit AccountFault) → state_of y ≡ chosen r (state_of x) (change (state_of x)) → map (λ a. (state_of a).code) (set rows at y) ≡ map (λ a. (state_of a).code) rows
    codes-stay same r after = map_same (λ a. (state_of a).code) rows at x y (ap (λ (a : AccountState). a.code) after ∙ by r ∙ ap (λ a. (state_of a).code) here)
      where
        by : (r : Result Unit AccountFault) → (chosen r (state_of x) (change (state_of x))).code ≡ (state_of x).code
        by (Ok done) = same (state_of x)
        by (Err fault) = refl

    pub rows-after : (s : State) → s.accounts ≡ map state_of rows → (r : Result Unit AccountFault) → state_of y ≡ chosen r (state_of x) (change (state_of x)) → (d : AccountState) → with_accounts s (map state_of (set rows at y)) s.optimizations ≡ chosen r s (with_row s at (change (get_or s.accounts at d)))
    rows-after s is (Ok done) after d =
        let e : get_or s.accounts at d ≡ state_of x = ap (λ l. get_or l at d) is ∙ row_is d in
        ap (λ l. with_accounts s l s.optimizations) (map-set state_of rows at y ∙ (λ i. set (sym is i) at (after i)) ∙ ap (λ a. set s.accounts at (change a)) (sym e))
    rows-after s is (Err fault) after d =
        ap (λ l. with_accounts s l s.optimizations) (map-set state_of rows at y ∙ ap (set (map state_of rows) at) (after ∙ sym (row_is (state_of x))) ∙ set-get_or (map state_of rows) at (state_of x) ∙ sym is)
