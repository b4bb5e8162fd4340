-- Rows that lie in step with an ascending row of their keys.
use Rattle.std.proofs.Common.{◌≡◌, ℕ, zero, suc, ◌<◌, ◌≤◌, Bool, true, false, cond, List, [], ◌∷◌, map, length, get_or, set, Some, None, Option, Ordering, Less, Equal, Greater, sym, refl, ap, ◌∙◌, subst, true≢false, arith}
use Rattle.std.proofs.Math.ListN.{length-map}
use Rattle.std.specs.List.{insert as inserted, AllWithin}
use Rattle.std.specs.Cmp.{IsTotalOrder}
use Rattle.std.specs.Ordering.{is_eq, is_lt, ordering_reverse}
use Rattle.money.specs.Options.{first_of}
use Rattle.register.specs.Rows.{further, place_of, InsertionPoint}
use Rattle.register.proofs.RowLaws.{none_equal}
use Rattle.history.specs.Bookings.{change_first}

-- what is found of a row, and what is changed of it, by the place of its key
module _ {K X : Type 0} (compare : K → K → Ordering) (key_of : X → K) (key : K) (test : X → Bool) (same : (x : X) → is_eq (compare (key_of x) key) ≡ test x) where
  pub found_none : (xs : List X) → place_of compare (map key_of xs) key ≡ None → first_of test xs ≡ None
  unfolding place_of
  found_none [] e = refl
  found_none (x ∷ xs) e = by (is_eq (compare (key_of x) key)) (same x) (place_of compare (map key_of xs) key) (found_none xs) e
    where
      by : (b : Bool) → b ≡ test x → (o : Option ℕ) → (o ≡ None → first_of test xs ≡ None) → cond b (Some 0) (further o) ≡ None → cond (test x) (Some x) (first_of test xs) ≡ None
      by true is o later e = let z : ◌≡◌ {A = ℕ} 0 1 = cc in absurd (omega arith)
      by false is None later e = rw (sym is) (later refl)
      by false is (Some i) later e = let z : ◌≡◌ {A = ℕ} 0 1 = cc in absurd (omega arith)

  pub none-placed : (xs : List X) → first_of test xs ≡ None → place_of compare (map key_of xs) key ≡ None
  unfolding place_of
  none-placed [] e = refl
  none-placed (x ∷ xs) e = by (is_eq (compare (key_of x) key)) (same x) (none-placed xs) e
    where
      by : (b : Bool) → b ≡ test x → (first_of test xs ≡ None → place_of compare (map key_of xs) key ≡ None) → cond (test x) (Some x) (first_of test xs) ≡ None → cond b (Some 0) (further (place_of compare (map key_of xs) key)) ≡ None
      by true is later e = let found = subst (λ b. cond b (Some x) (first_of test xs) ≡ None) (sym is) e in let z : ◌≡◌ {A = ℕ} 0 1 = cc in absurd (omega arith)
      by false is later e = ap further (later (subst (λ b. cond b (Some x) (first_of test xs) ≡ None) (sym is) e))

  pub record Found (xs : List X) (i : ℕ) : Type 0 where
    pub row : X
    pub within : i < length xs
    pub stands : (d : X) → get_or xs i d ≡ row
    pub found : first_of test xs ≡ Some row
    pub changes : (change : X → X) → change_first test change xs ≡ set xs i (change row)

  pub found_some : (xs : List X) (i : ℕ) → place_of compare (map key_of xs) key ≡ Some i → Found xs i
  unfolding place_of
  found_some [] i e = let z : ◌≡◌ {A = ℕ} 0 1 = cc in absurd (omega arith)
  found_some (x ∷ xs) i e = by (is_eq (compare (key_of x) key)) (same x) (place_of compare (map key_of xs) key) (found_some xs) i e
    where
      by : (b : Bool) → b ≡ test x → (o : Option ℕ) → ((j : ℕ) → o ≡ Some j → Found xs j) → (i : ℕ) → cond b (Some 0) (further o) ≡ Some i → Found (x ∷ xs) i
      by true is o later zero e = record { row = x; within = omega arith; stands = λ d. refl; found = rw (sym is); changes = λ change. rw (sym is) }
      by true is o later (suc i) e = let z : 0 ≡ suc i = cc in absurd (omega arith)
      by false is None later i e = let z : ◌≡◌ {A = ℕ} 0 1 = cc in absurd (omega arith)
      by false is (Some j) later zero e = let z : suc j ≡ 0 = cc in absurd (omega arith)
      by false is (Some j) later (suc i) e =
          let s : suc j ≡ suc i = cc in
          let f = later i (ap Some (omega arith)) in
          record { row = f.row; within = omega (arith, f.within); stands = f.stands; found = rw (sym is) f.found; changes = λ change. rw (sym is) (ap (λ l. x ∷ l) (f.changes change)) }

-- where a row with a new key is put
module _ {K X : Type 0} {R : K → K → Ordering} (o : IsTotalOrder R) (key_of : X → K) (new : X) (test : X → Bool) (insert : List X → List X) where
  -- how a row is put before the first that passes the test, given that none has its key
  pub record Inserts : Type 0 where
    pub below : (x : X) → is_lt (R (key_of new) (key_of x)) ≡ test x
    pub last : insert [] ≡ new ∷ []
    pub next : (x : X) (xs : List X) → is_eq (R (key_of x) (key_of new)) ≡ false → insert (x ∷ xs) ≡ cond (test x) (new ∷ x ∷ xs) (x ∷ insert xs)

  higher : (r : Ordering) → is_lt r ≡ false → is_eq r ≡ false → is_lt (ordering_reverse r) ≡ true
  higher Less a b = absurd (true≢false a)
  higher Equal a b = absurd (true≢false b)
  higher Greater a b = refl

  lower : (r : Ordering) → r ≡ Less → is_lt (ordering_reverse r) ≡ false
  lower r e = ap (λ k. is_lt (ordering_reverse k)) e

  pub inserted-there : Inserts → (xs : List X) (i : ℕ) → i ≤ length xs → AllWithin (λ k. R k (key_of new) ≡ Less) (map key_of xs) 0 i → AllWithin (λ k. is_lt (R k (key_of new)) ≡ false) (map key_of xs) i (length (map key_of xs)) → AllWithin (λ k. is_eq (R k (key_of new)) ≡ false) (map key_of xs) 0 (length (map key_of xs)) → insert xs ≡ inserted xs i new
  inserted-there how [] zero le before from none = how.last
  inserted-there how [] (suc i) le before from none = absurd (omega arith)
  inserted-there how (x ∷ xs) zero le before from none =
      let first = none 0 (key_of new) (omega arith) (omega arith) in
      let up : test x ≡ true = sym (how.below x) ∙ ap is_lt (o.antisymm (key_of new) (key_of x)) ∙ higher (R (key_of x) (key_of new)) (from 0 (key_of new) (omega arith) (omega arith)) first in
      how.next x xs first ∙ rw up
  inserted-there how (x ∷ xs) (suc i) le before from none =
      let first = none 0 (key_of new) (omega arith) (omega arith) in
      let down : test x ≡ false = sym (how.below x) ∙ ap is_lt (o.antisymm (key_of new) (key_of x)) ∙ lower (R (key_of x) (key_of new)) (before 0 (key_of new) (omega arith) (omega arith)) in
      how.next x xs first ∙ rw down (ap (λ l. x ∷ l) (inserted-there how xs i (omega arith)
      (λ j d a b. before (suc j) d (omega arith) (omega arith)) (λ j d a b. from (suc j) d (omega arith) (omega arith)) (λ j d a b. none (suc j) d (omega arith) (omega arith))))

  -- at its insertion point
  pub inserted-row : Inserts → (xs : List X) (i : ℕ) → i ≤ length (map key_of xs) → InsertionPoint R (map key_of xs) (key_of new) i → place_of R (map key_of xs) (key_of new) ≡ None → insert xs ≡ inserted xs i new
  inserted-row how xs i le point none =
      inserted-there how xs i (omega (arith, length-map xs key_of)) point.before point.from (none_equal R (key_of new) (map key_of xs) none)

pub map-inserted : {X Y : Type 0} (f : X → Y) (xs : List X) (i : ℕ) (x : X) → map f (inserted xs i x) ≡ inserted (map f xs) i (f x)
map-inserted f [] zero x = refl
map-inserted f [] (suc i) x = refl
map-inserted f (y ∷ xs) zero x = refl
map-inserted {Y = Y} f (y ∷ xs) (suc i) x = ap (λ (zs : List Y). f y ∷ zs) (map-inserted f xs i x)

pub map-twice : {X Y Z : Type 0} (f : X → Y) (g : Y → Z) (xs : List X) → map g (map f xs) ≡ map (λ x. g (f x)) xs
map-twice f g [] = refl
map-twice {Z = Z} f g (x ∷ xs) = ap (λ (zs : List Z). g (f x) ∷ zs) (map-twice f g xs)
