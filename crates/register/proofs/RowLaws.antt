-- The laws of `place_of` and `count_below`, and what a binary search tells of an ascending row.
use Rattle.std.proofs.Common.{◌≡◌, ℕ, zero, suc, ◌+◌, ◌-◌, ◌<◌, ◌≤◌, Bool, true, false, cond, ◌&&◌, T, ◌⊎◌, List, [], ◌∷◌, length, get_or, IfSome, Some, None, Ok, Err, Option, Result, Ordering, Less, Equal, Greater, sym, refl, ap, ◌∙◌, subst, inl, inr, true≢false, arith, MatchOption, MatchResult}
use Rattle.std.specs.List.{insert, HoldsAt, AllWithin, AllByRecursion}
use Rattle.std.specs.Cmp.{IsTotalOrder, alike_right, tied_itself}
use Rattle.std.specs.Result.{result_ok}
use Rattle.std.specs.Ordering.{is_eq, is_lt, ordering_reverse, ordering_index}
use Rattle.std.specs.List.Sorted.{IsNonDecreasingBy, IsPartitionPoint, IsBinarySearchResult, IsStrictlySortedBy}
use Rattle.std.proofs.lemmas.List.Edits.{length-insert, get_or-insert_below, get_or-insert_at, get_or-insert_above}
use Rattle.std.proofs.lemmas.Map.Keys.{Less-from_sorted, sorted_from_all_adjacent}
use Rattle.std.proofs.lemmas.List.Sorted.{searchable_from_sorted}
use Rattle.std.proofs.lemmas.Bool.{cases_lt, cases_order}
use Rattle.register.specs.Rows.{below_all, ascending, IsExact, further, place_of, count_below, Stands, IsPlace, InsertionPoint, ended}

-- ---- the places that a search may answer

module _ (n : ℕ) where
  pub met-within : (r : Result ℕ ℕ) → MatchResult r (λ i. i < n) (λ i. i ≤ n) → IfSome (result_ok r) (λ i. i < n)
  met-within (Ok i) h = h
  met-within (Err i) h = tt

  pub ended-within : (r : Result ℕ ℕ) → MatchResult r (λ i. i < n) (λ i. i ≤ n) → ended r ≤ n
  ended-within (Ok i) h = omega arith
  ended-within (Err i) h = h

-- ---- the laws of the two definitions, under any comparison

module _ {K : Type 0} (c : K → K → Ordering) (key : K) where
  pub place_none : (keys : List K) → AllWithin (λ k. is_eq (c k key) ≡ false) keys 0 (length keys) → place_of c keys key ≡ None
  unfolding place_of
  place_none [] h = refl
  place_none (k ∷ ks) h =
      ap (λ b. cond b (Some 0) (further (place_of c ks key))) (h 0 key (omega arith) (omega arith))
      ∙ ap further (place_none ks (λ j d a b. h (suc j) d (omega arith) (omega arith)))

  pub place-some : (keys : List K) (i : ℕ) → i < length keys → AllWithin (λ k. is_eq (c k key) ≡ false) keys 0 i → HoldsAt (λ k. c k key ≡ Equal) keys i → place_of c keys key ≡ Some i
  unfolding place_of
  place-some [] i l h e = let no : ⊥ = omega arith in absurd no
  place-some (k ∷ ks) zero l h e = ap (λ b. cond (is_eq b) (Some 0) (further (place_of c ks key))) (e key)
  place-some (k ∷ ks) (suc i) l h e =
      ap (λ b. cond b (Some 0) (further (place_of c ks key))) (h 0 key (omega arith) (omega arith))
      ∙ ap further (place-some ks i (omega arith) (λ j d a b. h (suc j) d (omega arith) (omega arith)) e)

  -- where no place is found, no key is equal
  apart : (b : Bool) (p : Option ℕ) → cond b (Some 0) (further p) ≡ None → (b ≡ false) × (p ≡ None)
  apart true p e = let z : ◌≡◌ {A = ℕ} 0 1 = cc in let no : ⊥ = omega arith in absurd no
  apart false None e = (refl, refl)
  apart false (Some i) e = let z : ◌≡◌ {A = ℕ} 0 1 = cc in let no : ⊥ = omega arith in absurd no

  pub none_equal : (keys : List K) → place_of c keys key ≡ None → AllWithin (λ k. is_eq (c k key) ≡ false) keys 0 (length keys)
  unfolding place_of
  none_equal [] e j d a b = let no : ⊥ = omega arith in absurd no
  none_equal (k ∷ ks) e zero d a b = (apart (is_eq (c k key)) (place_of c ks key) e).0
  none_equal (k ∷ ks) e (suc j) d a b = none_equal ks (apart (is_eq (c k key)) (place_of c ks key) e).1 j d (omega arith) (omega arith)

  pub count-parted : (keys : List K) (i : ℕ) → i ≤ length keys → AllWithin (λ k. c k key ≡ Less) keys 0 i → AllWithin (λ k. is_lt (c k key) ≡ false) keys i (length keys) → i ≡ count_below c keys key
  unfolding count_below
  count-parted [] i l h n = omega arith
  count-parted (k ∷ ks) zero l h n =
      count-parted ks 0 (omega arith) (λ j d a b. let no : ⊥ = omega arith in absurd no) (λ j d a b. n (suc j) d (omega arith) (omega arith))
      ∙ sym (ap (λ b. cond b (suc (count_below c ks key)) (count_below c ks key)) (n 0 key (omega arith) (omega arith)))
  count-parted (k ∷ ks) (suc i) l h n =
      ap suc (count-parted ks i (omega arith) (λ j d a b. h (suc j) d (omega arith) (omega arith)) (λ j d a b. n (suc j) d (omega arith) (omega arith)))
      ∙ sym (ap (λ b. cond (is_lt b) (suc (count_below c ks key)) (count_below c ks key)) (h 0 key (omega arith) (omega arith)))

  -- between the keys below and the keys above, none is equal
  pub none_between : (keys : List K) (i : ℕ) → IsPartitionPoint (λ k. c k key ≡ Less) (λ k. c k key ≡ Greater) keys i → AllWithin (λ k. is_eq (c k key) ≡ false) keys 0 (length keys)
  none_between keys i p j d a b = by (cases_lt j i)
    where
      by : (j < i) ⊎ (i ≤ j) → is_eq (c (get_or keys j d) key) ≡ false
      by (inl l) = ap is_eq (p.0 j d a l)
      by (inr l) = ap is_eq (p.1 j d l b)

-- ---- the test of a row, and what it says

less_and : (r : Ordering) (b : Bool) → T (is_lt r && b) → (r ≡ Less) × T b
less_and Less b h = (refl, h)
less_and Equal b h = absurd h
less_and Greater b h = absurd h

both_of : (a b : Bool) → T (a && b) → T a × T b
both_of true b h = (tt, h)
both_of false b h = absurd h

both_true : (a b : Bool) → T a → T b → T (a && b)
both_true true b h k = k
both_true false b h k = absurd h

module _ {K : Type 0} (c : K → K → Ordering) where
  all-from-test : (key : K) (ks : List K) → T (below_all c key ks) → AllByRecursion (λ k. c key k ≡ Less) ks
  all-from-test key [] h = tt
  all-from-test key (k ∷ ks) h = let p = less_and (c key k) (below_all c key ks) h in (p.0, all-from-test key ks p.1)

  test-from-all : (key : K) (ks : List K) → AllByRecursion (λ k. c key k ≡ Less) ks → T (below_all c key ks)
  test-from-all key [] h = tt
  test-from-all key (k ∷ ks) h = subst (λ r. T (is_lt r && below_all c key ks)) (sym h.0) (test-from-all key ks h.1)

  pub sorted-from-test : (ks : List K) → T (ascending c ks) → IsStrictlySortedBy c ks
  unfolding IsStrictlySortedBy
  sorted-from-test [] h = tt
  sorted-from-test (k ∷ ks) h = let p = both_of (below_all c k ks) (ascending c ks) h in (all-from-test k ks p.0, sorted-from-test ks p.1)

  pub test-from-sorted : (ks : List K) → IsStrictlySortedBy c ks → T (ascending c ks)
  unfolding IsStrictlySortedBy
  test-from-sorted [] h = tt
  test-from-sorted (k ∷ ks) h = both_true (below_all c k ks) (ascending c ks) (test-from-all k ks h.0) (test-from-sorted ks h.1)

-- ---- a total order, and a row that ascends

module _ {K : Type 0} {R : K → K → Ordering} (o : IsTotalOrder R) where
  pub turned : (x y : K) → R x y ≡ Less → R y x ≡ Greater
  turned x y e = o.antisymm y x ∙ ap ordering_reverse e

  pub turned-back : (x y : K) → R x y ≡ Greater → R y x ≡ Less
  turned-back x y e = o.antisymm y x ∙ ap ordering_reverse e

  module _ (keys : List K) (up : T (ascending R keys)) where
    pub less : (i j : ℕ) (d : K) → i < j → j < length keys → R (get_or keys i d) (get_or keys j d) ≡ Less
    less i j d = Less-from_sorted R keys i j d (sorted-from-test R keys up)

    pub rises : (key : K) → IsNonDecreasingBy (λ k. ordering_index (R k key)) keys
    rises key = searchable_from_sorted o (λ k. k) keys key (λ k d a b. ap is_lt (turned _ _ (less k (k + 1) d (omega arith) b)))

    module _ (key : K) where
      -- a key before an equal one is below, and one from it on is not
      before-equal : (i : ℕ) → i < length keys → HoldsAt (λ k. R k key ≡ Equal) keys i → AllWithin (λ k. R k key ≡ Less) keys 0 i
      before-equal i l e j d a b = sym (alike_right o (get_or keys i d) key (get_or keys j d) (e d)) ∙ less j i d b l

      from-equal : (i : ℕ) → HoldsAt (λ k. R k key ≡ Equal) keys i → AllWithin (λ k. is_lt (R k key) ≡ false) keys i (length keys)
      from-equal i e j d a b = by (cases_lt i j)
        where
          by : (i < j) ⊎ (j ≤ i) → is_lt (R (get_or keys j d) key) ≡ false
          by (inl l) = ap is_lt (turned key (get_or keys j d) (sym (o.congr (get_or keys i d) key (get_or keys j d) (e d)) ∙ less i j d l b))
          by (inr l) = let s : j ≡ i = omega arith in ap (λ n. is_lt (R (get_or keys n d) key)) s ∙ ap is_lt (e d)

      -- what the answer of a search tells
      pub met-cases : (r : Result ℕ ℕ) → IsBinarySearchResult (λ k. R k key) keys r → MatchOption (result_ok r) (AllWithin (λ k. is_eq (R k key) ≡ false) keys 0 (length keys)) (HoldsAt (λ k. R k key ≡ Equal) keys)
      met-cases (Ok i) h = h
      met-cases (Err i) h = none_between R key keys i (h (rises key))

      pub place_found : (r : Option ℕ) → IfSome r (λ i. i < length keys) → MatchOption r (AllWithin (λ k. is_eq (R k key) ≡ false) keys 0 (length keys)) (HoldsAt (λ k. R k key ≡ Equal) keys) → r ≡ place_of R keys key
      place_found None l h = sym (place_none R key keys h)
      place_found (Some i) l h = sym (place-some R key keys i l (λ j d a b. ap is_eq (before-equal i l h j d a b)) h)

      pub parted : (r : Result ℕ ℕ) → MatchResult r (λ i. i < length keys) (λ i. i ≤ length keys) → IsBinarySearchResult (λ k. R k key) keys r → AllWithin (λ k. R k key ≡ Less) keys 0 (ended r) × AllWithin (λ k. is_lt (R k key) ≡ false) keys (ended r) (length keys)
      parted (Ok i) l h = (before-equal i l h, from-equal i h)
      parted (Err i) l h = let p = h (rises key) in (p.0, λ j d a b. ap is_lt (p.1 j d a b))

      -- an absent key at its insertion point leaves the row ascending
      above : (r : Ordering) → is_lt r ≡ false → is_eq r ≡ false → r ≡ Greater
      above Less a b = absurd (true≢false a)
      above Equal a b = absurd (true≢false b)
      above Greater a b = refl

      module _ (i : ℕ) (l : i ≤ length keys) (h : AllWithin (λ k. R k key ≡ Less) keys 0 i) (n : AllWithin (λ k. is_lt (R k key) ≡ false) keys i (length keys)) (no_place : place_of R keys key ≡ None) where
        after : (j : ℕ) (d : K) → i ≤ j → j < length keys → R key (get_or keys j d) ≡ Less
        after j d a b = turned-back (get_or keys j d) key (above _ (n j d a b) (none_equal R key keys no_place j d (omega arith) b))

        next-less : (k : ℕ) → k + 1 < length (insert keys i key) → R (get_or (insert keys i key) k key) (get_or (insert keys i key) (k + 1) key) ≡ Less
        next-less k b = by (cases_order (k + 1) i)
          where
            short : k < length keys
            short = omega (arith, length-insert keys i key l)

            far : (i ≡ k) ⊎ ((i < k) ⊎ (k < i)) → i < k + 1 → R (get_or (insert keys i key) k key) (get_or (insert keys i key) (k + 1) key) ≡ Less
            far (inl e) g =
                let p : get_or (insert keys i key) k key ≡ key = ap (λ m. get_or (insert keys i key) m key) (sym e) ∙ get_or-insert_at keys i key key l in
                let q = get_or-insert_above keys i key key k (omega arith) l in
                let t = after k key (omega arith) short in
                cc
            far (inr (inl g)) g' =
                let s : k ≡ (k - 1) + 1 = omega arith in
                let p : get_or (insert keys i key) k key ≡ get_or keys (k - 1) key = ap (λ m. get_or (insert keys i key) m key) s ∙ get_or-insert_above keys i key key (k - 1) (omega arith) l in
                let q = get_or-insert_above keys i key key k (omega arith) l in
                let t = less (k - 1) k key (omega arith) short in
                cc
            far (inr (inr g)) g' = let no : ⊥ = omega arith in absurd no

            by : (k + 1 ≡ i) ⊎ ((k + 1 < i) ⊎ (i < k + 1)) → R (get_or (insert keys i key) k key) (get_or (insert keys i key) (k + 1) key) ≡ Less
            by (inl e) =
                let p = get_or-insert_below keys i key key k (omega arith) l in
                let q : get_or (insert keys i key) (k + 1) key ≡ key = ap (λ m. get_or (insert keys i key) m key) e ∙ get_or-insert_at keys i key key l in
                let t = h k key (omega arith) (omega arith) in
                cc
            by (inr (inl g)) =
                let p = get_or-insert_below keys i key key k (omega arith) l in
                let q = get_or-insert_below keys i key key (k + 1) g l in
                let t = less k (k + 1) key (omega arith) (omega arith) in
                cc
            by (inr (inr g)) = far (cases_order i k) g

        pub still-ascending : T (ascending R (insert keys i key))
        still-ascending = test-from-sorted R (insert keys i key) (sorted_from_all_adjacent o (insert keys i key) key next-less)

      pub point-found : (i : ℕ) → i ≤ length keys → AllWithin (λ k. R k key ≡ Less) keys 0 i × AllWithin (λ k. is_lt (R k key) ≡ false) keys i (length keys) → InsertionPoint R keys key i
      point-found i l p = record { before = p.0; from = p.1; keeps = still-ascending i l p.0 p.1 }

      -- a place where the key stands is the one that is found
      stands-found : (i : ℕ) → Stands keys key i → place_of R keys key ≡ Some i
      stands-found i s =
          let e : HoldsAt (λ k. R k key ≡ Equal) keys i = λ d. ap (λ k. R k key) (s.1 d) ∙ tied_itself o key in
          place-some R key keys i s.0 (λ j d a b. ap is_eq (before-equal i s.0 e j d a b)) e

      pub is-place : IsExact R → (r : Option ℕ) → IfSome r (λ i. i < length keys) → MatchOption r (AllWithin (λ k. is_eq (R k key) ≡ false) keys 0 (length keys)) (HoldsAt (λ k. R k key ≡ Equal) keys) → IsPlace keys key r
      is-place exact r l h = record {
        found = found_at;
        stands = stands_at r l h;
        absent = absent_by r l h;
        nowhere = λ e i s. let f = found_at i s in let z : ◌≡◌ {A = ℕ} 0 1 = cc in omega arith;
      }
        where
          found_at : (i : ℕ) → Stands keys key i → r ≡ Some i
          found_at i s = place_found r l h ∙ stands-found i s

          stands_at : (r : Option ℕ) → IfSome r (λ i. i < length keys) → MatchOption r (AllWithin (λ k. is_eq (R k key) ≡ false) keys 0 (length keys)) (HoldsAt (λ k. R k key ≡ Equal) keys) → (i : ℕ) → r ≡ Some i → Stands keys key i
          stands_at None l h i e = let z : ◌≡◌ {A = ℕ} 0 1 = cc in let no : ⊥ = omega arith in absurd no
          stands_at (Some j) l h i e = let s : j ≡ i = cc in subst (λ m. Stands keys key m) s (l, λ d. exact _ _ (h d))

          absent_by : (r : Option ℕ) → IfSome r (λ i. i < length keys) → MatchOption r (AllWithin (λ k. is_eq (R k key) ≡ false) keys 0 (length keys)) (HoldsAt (λ k. R k key ≡ Equal) keys) → ((i : ℕ) → Stands keys key i → ⊥) → r ≡ None
          absent_by None l h never = refl
          absent_by (Some j) l h never = absurd (never j (l, λ d. exact _ _ (h d)))
