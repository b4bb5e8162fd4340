-- What is found first in a list, after a change of the list.
use Rattle.std.proofs.Common.{◌≡◌, ℕ, Bool, true, false, cond, List, [], ◌∷◌, map, Some, None, sym, refl, ap, ◌∙◌, arith}
use Rattle.std.proofs.lemmas.Bool.{and_parts, cond-true, cond-false}
use Rattle.std.specs.Option.{option_map}
use Rattle.money.specs.Options.{first_of, every}
use Rattle.history.specs.Bookings.{change_first}

-- what holds of all holds of what is found
pub found-every : {X : Type 0} (f test : X → Bool) (xs : List X) (x : X) → every f xs ≡ true → first_of test xs ≡ Some x → f x ≡ true
found-every f test [] x all e = let z : ◌≡◌ {A = ℕ} 0 1 = cc in absurd (omega arith)
found-every f test (y ∷ ys) x all e = by (test y) (and_parts (f y) (every f ys) all) (found-every f test ys x) e
  where
    by : (b : Bool) → (f y ≡ true) × (every f ys ≡ true) → (every f ys ≡ true → first_of test ys ≡ Some x → f x ≡ true) → cond b (Some y) (first_of test ys) ≡ Some x → f x ≡ true
    by true parts later e = let same : y ≡ x = cc in ap f (sym same) ∙ parts.0
    by false parts later e = later parts.1 e

-- where none is found, the first is not, and none later
pub none_found : {X : Type 0} (test : X → Bool) (x : X) (xs : List X) → first_of test (x ∷ xs) ≡ None → (test x ≡ false) × (first_of test xs ≡ None)
none_found test x xs e = by (test x) e
  where
    by : (b : Bool) → cond b (Some x) (first_of test xs) ≡ None → (b ≡ false) × (first_of test xs ≡ None)
    by true e = let z : ◌≡◌ {A = ℕ} 0 1 = cc in absurd (omega arith)
    by false e = (refl, e)

-- all are changed
pub found_map : {X Y : Type 0} (test : Y → Bool) (change : X → Y) (xs : List X) → first_of test (map change xs) ≡ option_map change (first_of (λ x. test (change x)) xs)
found_map test change [] = refl
found_map test change (x ∷ xs) = by (test (change x)) (found_map test change xs)
  where
    by : (b : Bool) → first_of test (map change xs) ≡ option_map change (first_of (λ x. test (change x)) xs) →
        cond b (Some (change x)) (first_of test (map change xs)) ≡ option_map change (cond b (Some x) (first_of (λ x. test (change x)) xs))
    by true later = refl
    by false later = later

-- the first that passes a test is changed: found by that test, or by another that it fails
module _ {X : Type 0} (test : X → Bool) (change : X → X) (keeps : (x : X) → test (change x) ≡ test x) where
  pub found-changed : (xs : List X) → first_of test (change_first test change xs) ≡ option_map change (first_of test xs)
  found-changed [] = refl
  found-changed (x ∷ xs) = by (test x) refl (found-changed xs)
    where
      by : (b : Bool) → test x ≡ b → first_of test (change_first test change xs) ≡ option_map change (first_of test xs) →
          first_of test (cond b (change x ∷ xs) (x ∷ change_first test change xs)) ≡ option_map change (cond b (Some x) (first_of test xs))
      by true is later = cond-true _ _ _ (keeps x ∙ is)
      by false is later = cond-false _ _ _ is ∙ later

  pub found-unchanged : (other : X → Bool) → ((x : X) → other x ≡ true → test x ≡ false) → (xs : List X) → first_of test (change_first other change xs) ≡ first_of test xs
  found-unchanged other apart [] = refl
  found-unchanged other apart (x ∷ xs) = by (other x) refl (found-unchanged other apart xs)
    where
      by : (b : Bool) → other x ≡ b → first_of test (change_first other change xs) ≡ first_of test xs →
          first_of test (cond b (change x ∷ xs) (x ∷ change_first other change xs)) ≡ cond (test x) (Some x) (first_of test xs)
      by true is later = cond-false _ _ _ (keeps x ∙ apart x is) ∙ sym (cond-false _ _ _ (apart x is))
      by false is later = ap (cond (test x) (Some x)) later
