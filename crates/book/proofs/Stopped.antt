-- Whether an optimization account is stopped, by the one row that has its number.
use Rattle.std.proofs.Common.{◌≡◌, ℕ, Bool, true, false, cond, ◌&&◌, eqb, List, [], ◌∷◌, get_or, is_some, Some, None, Option, sym, refl, ap, ◌∙◌, true≢false, arith, eqb-true}
use Rattle.std.specs.Cmp.{unsigned_tied}
use Rattle.std.specs.List.{list_all}
use Rattle.std.specs.Ordering.{is_lt, nat_cmp}
use Rattle.std.proofs.lemmas.Bool.{and_parts}
use Rattle.money.specs.Options.{first_of}
use Rattle.register.specs.Rows.{ascending, place_of}
use Rattle.history.specs.declared.optimization.OptimizationAccount.{OptimizationAccount}
use Rattle.history.specs.Bookings.{has_number}
use Rattle.book.specs.Rows.{numbers_of}
use Rattle.book.proofs.Inserted.{below-found}
use Rattle.book.proofs.Keyed.{found_none, found_some}

-- a row has the number and is stopped
abbrev pub stops : ℕ → OptimizationAccount → Bool
stops number o = has_number number o && o.stopped

-- where no row has the number, no row of it is stopped
none-stopped : (n : ℕ) (rows : List OptimizationAccount) → is_some (first_of (has_number n) rows) ≡ false → is_some (first_of (stops n) rows) ≡ false
none-stopped n [] e = refl
none-stopped n (o ∷ os) e = by (eqb o.number n) (none-stopped n os) e
  where
    by : (b : Bool) → (is_some (first_of (has_number n) os) ≡ false → is_some (first_of (stops n) os) ≡ false) → is_some (cond b (Some o) (first_of (has_number n) os)) ≡ false → is_some (cond (b && o.stopped) (Some o) (first_of (stops n) os)) ≡ false
    by true later e = absurd (true≢false e)
    by false later e = later e

-- the numbers ascend, so that the first row of a number is the only one
stopped-row : (n : ℕ) (rows : List OptimizationAccount) (r : OptimizationAccount) → ascending nat_cmp (numbers_of rows) ≡ true → first_of (has_number n) rows ≡ Some r → r.stopped ≡ is_some (first_of (stops n) rows)
stopped-row n [] r up e = let z : ◌≡◌ {A = ℕ} 0 1 = cc in absurd (omega arith)
stopped-row n (o ∷ os) r up e = by (eqb o.number n) refl (and_parts (list_all (λ k. is_lt (nat_cmp o.number k)) (numbers_of os)) _ up) (stopped-row n os r) e
  where
    alone : eqb o.number n ≡ true → list_all (λ k. is_lt (nat_cmp o.number k)) (numbers_of os) ≡ true → (b : Bool) → is_some (first_of (has_number n) os) ≡ b → b ≡ false
    alone is low true e = absurd (omega (arith, below-found o.number n os low e, eqb-true o.number n is))
    alone is low false e = refl

    here : is_some (first_of (stops n) os) ≡ false → (q : Bool) → q ≡ is_some (cond q (Some o) (first_of (stops n) os))
    here none true = refl
    here none false = sym none

    by : (b : Bool) → eqb o.number n ≡ b → (list_all (λ k. is_lt (nat_cmp o.number k)) (numbers_of os) ≡ true) × (ascending nat_cmp (numbers_of os) ≡ true) → (ascending nat_cmp (numbers_of os) ≡ true → first_of (has_number n) os ≡ Some r → r.stopped ≡ is_some (first_of (stops n) os)) → cond b (Some o) (first_of (has_number n) os) ≡ Some r → r.stopped ≡ is_some (cond (b && o.stopped) (Some o) (first_of (stops n) os))
    by true is up later e =
        let own : o ≡ r = cc in
        ap (λ (x : OptimizationAccount). x.stopped) (sym own) ∙ here (none-stopped n os (alone is up.0 (is_some (first_of (has_number n) os)) refl)) o.stopped
    by false is up later e = later up.1 e

-- what the look-up of the number tells of it
module _ (rows : List OptimizationAccount) (numbers : List ℕ) (number : ℕ) (r : Option ℕ) (numbered : numbers_of rows ≡ numbers) (is : r ≡ place_of nat_cmp numbers number) where
  pub placed-stopped : ascending nat_cmp numbers ≡ true → (at : ℕ) → r ≡ Some at → (x : OptimizationAccount) → x ≡ get_or rows at x → x.stopped ≡ is_some (first_of (stops number) rows)
  placed-stopped up at there x here =
      let e : place_of nat_cmp (numbers_of rows) number ≡ Some at = ap (λ ks. place_of nat_cmp ks number) numbered ∙ sym is ∙ there in
      let f = found_some nat_cmp (λ (o : OptimizationAccount). o.number) number (has_number number) (λ o. unsigned_tied o.number number) rows at e in
      ap (λ (o : OptimizationAccount). o.stopped) (here ∙ f.stands x) ∙ stopped-row number rows f.row (ap (ascending nat_cmp) numbered ∙ up) f.found

  pub unplaced-stopped : r ≡ None → false ≡ is_some (first_of (stops number) rows)
  unplaced-stopped nowhere =
      let e : place_of nat_cmp (numbers_of rows) number ≡ None = ap (λ ks. place_of nat_cmp ks number) numbered ∙ sym is ∙ nowhere in
      sym (none-stopped number rows (ap is_some (found_none nat_cmp (λ (o : OptimizationAccount). o.number) number (has_number number) (λ o. unsigned_tied o.number number) rows e)))
