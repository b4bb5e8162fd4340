-- Lists of an amount for each currency, in book order.
use Rattle.std.proofs.Common.{◌≡◌, ℕ, ◌+◌, ◌<◌, ◌≤◌, Bool, true, false, cond, List, [], ◌∷◌, map, length, get_or, drop, set, replicate, ℤ, pos, sym, refl, ap, ◌∙◌, arith, length-set}
use Rattle.std.specs.List.{range_with_len}
use Rattle.std.proofs.lemmas.List.FromFn.{get_or-range_with_len}
use Rattle.std.proofs.lemmas.List.{drop_more, drop_all, get_or-map, get_or-set_same, get_or-set_other, ext_get_or}
use Rattle.std.proofs.lemmas.Bool.{cond-true, cond-false, eqb-true, eqb-false}
use Rattle.std.proofs.lemmas.Bool.Decides.{nat_tests}
use Rattle.money.specs.declared.currency.Currency.{Currency}
use Rattle.money.specs.declared.currency.Currency.TheVariants.{Gbp}
use Rattle.money.specs.Currencies.{currencies, place, is_same}
use Rattle.money.proofs.EachCurrency.{same-currency, place-within, at_place}
use Rattle.account.specs.Priorities.{times}
use Rattle.determination.specs.Determinations.{amount_in}
use Rattle.determination.specs.Walks.{rest_after, rest_at, rest_at_end, taken}
use Rattle.determination.proofs.Namings.{EachOnce, named-later}

-- at each place stands the currency of that place
pub place_at : (k : ℕ) (d : Currency) → k < length currencies → place (get_or currencies k d) ≡ k
place_at k d h =
    let numbered : map place currencies ≡ range_with_len 0 (length currencies) = refl in
    sym (get_or-map place currencies k d 0 h) ∙ ap (λ ks. get_or ks k 0) numbered ∙ get_or-range_with_len 0 (length currencies) k 0 h ∙ omega arith

-- amounts are listed where each stands at its place
pub listed : (xs : List ℤ) (f : Currency → ℤ) → length xs ≡ length currencies → ((c : Currency) → amount_in xs c ≡ f c) → xs ≡ map f currencies
listed xs f all same =
    ext_get_or (pos 0) xs (map f currencies) all (λ k h.
    let h' : k < length currencies = omega arith in
    let at = place_at k Gbp h' in
    sym (ap (λ j. get_or xs j (pos 0)) at) ∙ same (get_or currencies k Gbp) ∙ sym (get_or-map f currencies k Gbp (pos 0) h'))

-- and each is then found there
pub amount : (f : Currency → ℤ) (xs : List ℤ) → xs ≡ map f currencies → (c : Currency) → amount_in xs c ≡ f c
amount f xs e c = ap (λ (ys : List ℤ). amount_in ys c) e ∙ at_place f (pos 0) c

-- one amount is replaced
pub amount-set : (xs : List ℤ) (c d : Currency) (x : ℤ) → length xs ≡ length currencies → amount_in (set xs (place c) x) d ≡ cond (is_same c d) x (amount_in xs d)
amount-set xs c d x all = by (is_same c d) refl
  where
    by : (b : Bool) → is_same c d ≡ b → amount_in (set xs (place c) x) d ≡ cond b x (amount_in xs d)
    by true e =
        let here : place c < length xs = let w = place-within c in omega arith in
        ap (λ k. get_or (set xs (place c) x) k (pos 0)) (sym (eqb-true (place c) (place d) e)) ∙ get_or-set_same xs (place c) x (pos 0) here
    by false e = get_or-set_other xs (place c) (place d) x (pos 0) (λ s. eqb-false (place c) (place d) e (sym s))

-- WALKS

-- the amounts that a walk writes down as it goes
abbrev pub walked : (ℤ → Currency → ℤ) → (Currency → ℤ) → List Currency → ℤ → List ℤ → List ℤ
walked take rate [] r xs = xs
walked take rate (c ∷ cs) r xs = walked take rate cs (rest_after take rate r c) (set xs (place c) (take r c))

module _ (take : ℤ → Currency → ℤ) (rate : Currency → ℤ) where
  walked-length : (cs : List Currency) (r : ℤ) (xs : List ℤ) → length (walked take rate cs r xs) ≡ length xs
  walked-length [] r xs = refl
  walked-length (c ∷ cs) r xs = walked-length cs (rest_after take rate r c) (set xs (place c) (take r c)) ∙ length-set xs (place c) (take r c)

  -- a currency that is not named keeps its amount
  walked_keeps : (d : Currency) (cs : List Currency) (r : ℤ) (xs : List ℤ) → times d cs ≡ 0 → length xs ≡ length currencies → amount_in (walked take rate cs r xs) d ≡ amount_in xs d
  walked_keeps d [] r xs none all = refl
  walked_keeps d (c ∷ cs) r xs none all =
      let other : is_same c d ≡ false = grind (arith, nat_tests) in
      let later : times d cs ≡ 0 = let l = named-later d c cs in omega arith in
      walked_keeps d cs (rest_after take rate r c) (set xs (place c) (take r c)) later (length-set xs (place c) (take r c) ∙ all)
      ∙ amount-set xs c d (take r c) all ∙ cond-false (is_same c d) _ _ other

  -- one that is named once gets what the walk takes there
  walked-takes : (d : Currency) (cs : List Currency) (r : ℤ) (xs : List ℤ) → times d cs ≡ 1 → length xs ≡ length currencies → amount_in (walked take rate cs r xs) d ≡ taken take rate cs r d
  walked-takes d [] r xs once all = absurd (omega arith)
  walked-takes d (c ∷ cs) r xs once all = by (is_same c d) refl (λ later. walked-takes d cs (rest_after take rate r c) (set xs (place c) (take r c)) later (length-set xs (place c) (take r c) ∙ all))
    where
      by : (b : Bool) → is_same c d ≡ b → (times d cs ≡ 1 → amount_in (walked take rate cs (rest_after take rate r c) (set xs (place c) (take r c))) d ≡ taken take rate cs (rest_after take rate r c) d) →
          amount_in (walked take rate cs (rest_after take rate r c) (set xs (place c) (take r c))) d ≡ take (cond b r (rest_at take rate cs (rest_after take rate r c) d)) d
      by true e _ =
          let none : times d cs ≡ 0 = grind (arith, nat_tests) in
          walked_keeps d cs (rest_after take rate r c) (set xs (place c) (take r c)) none (length-set xs (place c) (take r c) ∙ all)
          ∙ amount-set xs c d (take r c) all ∙ cond-true (is_same c d) _ _ e ∙ ap (take r) (same-currency c d e)
      by false e there = there (grind (arith, nat_tests))

  -- so what is written down lists what the walk takes in each currency
  pub walk-listed : (cs : List Currency) → EachOnce cs → (r : ℤ) → walked take rate cs r (replicate (length currencies) (pos 0)) ≡ map (taken take rate cs r) currencies
  walk-listed cs once r =
      listed (walked take rate cs r (replicate (length currencies) (pos 0))) (taken take rate cs r)
      (walked-length cs r (replicate (length currencies) (pos 0)))
      (λ d. walked-takes d cs r (replicate (length currencies) (pos 0)) (once d) refl)

  -- one currency more, and the walk still ends as it does
  pub walked-step : (cs : List Currency) (i j : ℕ) (r s w end : ℤ) (xs all : List ℤ) → i < length cs → s ≡ rest_after take rate r (get_or cs i Gbp) → j ≡ place (get_or cs i Gbp) → w ≡ take r (get_or cs i Gbp) →
      (rest_at_end take rate (drop i cs) r ≡ end) × (walked take rate (drop i cs) r xs ≡ all) → (rest_at_end take rate (drop (i + 1) cs) s ≡ end) × (walked take rate (drop (i + 1) cs) s (set xs j w) ≡ all)
  walked-step cs i j r s w end xs all named rested at took before =
      let e = drop_more cs i Gbp named in (
        ap (rest_at_end take rate (drop (i + 1) cs)) rested ∙ sym (ap (λ (ks : List Currency). rest_at_end take rate ks r) e) ∙ before.0,
        (λ k. walked take rate (drop (i + 1) cs) (rested k) (set xs (at k) (took k))) ∙ sym (ap (λ (ks : List Currency). walked take rate ks r xs) e) ∙ before.1,
      )

  -- and after the last it has ended
  pub walked-end : (cs : List Currency) (i : ℕ) (r end : ℤ) (xs all : List ℤ) → length cs ≤ i → (rest_at_end take rate (drop i cs) r ≡ end) × (walked take rate (drop i cs) r xs ≡ all) → (r ≡ end) × (xs ≡ all)
  walked-end cs i r end xs all past before =
      let none = sym (drop_all i cs past) in (ap (λ (ks : List Currency). rest_at_end take rate ks r) none ∙ before.0, ap (λ (ks : List Currency). walked take rate ks r xs) none ∙ before.1)
