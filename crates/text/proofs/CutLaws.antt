-- What `cut_at` gives.
use Rattle.std.proofs.Common.{◌≡◌, ℕ, zero, suc, ◌<◌, Bool, true, false, cond, not, eqb, ltb, List, [], ◌∷◌, ◌++◌, length, get_or, take, drop, Some, None, Option, refl, ap, ◌∙◌, subst, arith, eq-eqb, ne_eqb, eqb-true, lt-ltb}
use Rattle.std.specs.List.{position, position_or_len}
use Rattle.std.specs.Option.{option_map}
use Prim.Native.Nat.compare
use Rattle.text.specs.Cuts.{onto, cut_at, Free}

pub some_same : {X : Type 0} {x y : X} → Some x ≡ Some y → x ≡ y
some_same e = cc

pub drop-one : {X : Type 0} (i : ℕ) (xs : List X) → drop 1 (drop i xs) ≡ drop (suc i) xs
drop-one zero xs = refl
drop-one (suc i) [] = refl
drop-one (suc i) (x ∷ xs) = drop-one i xs

-- a text is cut at the place of the first mark
pub cut_place : (m : ℕ) (xs : List ℕ) (o : Option ℕ) → position (λ b. eqb b m) xs ≡ o → cut_at m xs ≡ option_map (λ i. (take i xs, drop (suc i) xs)) o
cut_place m xs o e = at xs ∙ ap (option_map (λ i. (take i xs, drop (suc i) xs))) e
  where
    at : (xs : List ℕ) → cut_at m xs ≡ option_map (λ i. (take i xs, drop (suc i) xs)) (position (λ b. eqb b m) xs)
    at [] = refl
    at (c ∷ cs) = by (eqb c m) (position_or_len (λ b. eqb b m) cs) _ (omega arith) (at cs)
      where
        by : (b : Bool) (p q : ℕ) → q ≡ suc p → cut_at m cs ≡ option_map (λ i. (take i cs, drop (suc i) cs)) (cond (ltb p (length cs)) (Some p) None) → cond b (Some ([], cs)) (onto c (cut_at m cs)) ≡ option_map (λ i. (take i (c ∷ cs), drop (suc i) (c ∷ cs))) (cond (ltb (cond (not b) q 0) (suc (length cs))) (Some (cond (not b) q 0)) None)
        by true p q e is = rw (lt-ltb 0 (suc (length cs)) (omega arith)) refl
        by false p q e is = rw (e, is, compare.suc-suc) (inside (ltb p (length cs)))
          where
            inside : (b : Bool) → onto c (option_map (λ i. (take i cs, drop (suc i) cs)) (cond b (Some p) None)) ≡ option_map (λ i. (take i (c ∷ cs), drop (suc i) (c ∷ cs))) (cond b (Some (suc p)) None)
            inside true = refl
            inside false = refl

-- what was cut off, and back
abbrev pub Cut : ℕ → List ℕ → List ℕ × List ℕ → Type 0
Cut m xs q = (xs ≡ q.0 ++ (m ∷ q.1)) × Free m q.0

pub cut-says : (m : ℕ) (xs : List ℕ) (q : List ℕ × List ℕ) → cut_at m xs ≡ Some q → Cut m xs q
cut-says m [] q e = let z : ◌≡◌ {A = ℕ} 0 1 = cc in absurd (omega arith)
cut-says m (c ∷ cs) q e = at (eqb c m) refl (cut_at m cs) (cut-says m cs) e
  where
    at : (b : Bool) → eqb c m ≡ b → (o : Option (List ℕ × List ℕ)) → ((q : List ℕ × List ℕ) → o ≡ Some q → Cut m cs q) → cond b (Some ([], cs)) (onto c o) ≡ Some q → Cut m (c ∷ cs) q
    at true t o ih e = subst (Cut m (c ∷ cs)) (some_same e) (ap (λ x. x ∷ cs) (eqb-true c m t), tt)
    at false t None ih e = let z : ◌≡◌ {A = ℕ} 0 1 = cc in absurd (omega arith)
    at false t (Some p) ih e = subst (Cut m (c ∷ cs)) (some_same e) (ap (λ l. c ∷ l) (ih p refl).0, (t, (ih p refl).1))

pub cut-reads : (m : ℕ) (f r : List ℕ) → Free m f → cut_at m (f ++ (m ∷ r)) ≡ Some (f, r)
cut-reads m [] r free = rw (eq-eqb m m refl)
cut-reads m (c ∷ cs) r free = rw (free.0, cut-reads m cs r free.1)

pub free-parts : (m : ℕ) (xs ys : List ℕ) → Free m (xs ++ ys) → Free m xs × Free m ys
free-parts m [] ys h = (tt, h)
free-parts m (c ∷ cs) ys h = let p = free-parts m cs ys h.1 in ((h.0, p.0), p.1)

pub free-joined : (m : ℕ) (xs ys : List ℕ) → Free m xs → Free m ys → Free m (xs ++ ys)
free-joined m [] ys a b = b
free-joined m (c ∷ cs) ys a b = (a.0, free-joined m cs ys a.1 b)

pub free-from : (m : ℕ) (xs : List ℕ) → ((k : ℕ) → k < length xs → get_or xs k 0 ≡ m → ⊥) → Free m xs
free-from m [] none = tt
free-from m (c ∷ cs) none = (ne_eqb c m (none 0 (omega arith)), free-from m cs (λ k lt. none (suc k) (omega arith)))

pub cut-free : (m : ℕ) (xs : List ℕ) → Free m xs → cut_at m xs ≡ None
cut-free m [] free = refl
cut-free m (c ∷ cs) free = rw (free.0, cut-free m cs free.1)

pub free-cut : (m : ℕ) (xs : List ℕ) → cut_at m xs ≡ None → Free m xs
free-cut m [] e = tt
free-cut m (c ∷ cs) e = at (eqb c m) refl (cut_at m cs) (free-cut m cs) e
  where
    at : (b : Bool) → eqb c m ≡ b → (o : Option (List ℕ × List ℕ)) → (o ≡ None → Free m cs) → cond {A = Option (List ℕ × List ℕ)} b (Some ([], cs)) (onto c o) ≡ None → (eqb c m ≡ false) × Free m cs
    at true t o ih e = let z : ◌≡◌ {A = ℕ} 0 1 = cc in absurd (omega arith)
    at false t None ih e = (t, ih refl)
    at false t (Some p) ih e = let z : ◌≡◌ {A = ℕ} 0 1 = cc in absurd (omega arith)
