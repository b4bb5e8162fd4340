-- What holds of every walk through currencies.
use Rattle.std.proofs.Common.{◌≡◌, ◌<◌, List, [], ◌∷◌, ℤ, pos, ◌+ℤ◌, ◌*ℤ◌, ◌≤ℤ◌, sym, refl, ap, ◌∙◌, subst, arith}
use Rattle.std.proofs.lemmas.Int.{ints, clamps}
use Rattle.std.proofs.lemmas.Bool.{cond-true, cond-false, cond_both}
use Rattle.std.proofs.lemmas.Bool.Decides.{nat_tests}
use Rattle.money.specs.declared.currency.Currency.{Currency}
use Rattle.money.specs.Currencies.{currencies, is_same}
use Rattle.account.specs.Priorities.{times}
use Rattle.determination.specs.Valuations.{sum}
use Rattle.determination.specs.Walks.{rest_after, rest_at, rest_at_end}
use Rattle.money.proofs.EachCurrency.{same-currency, same-itself}
use Rattle.determination.proofs.Namings.{EachOnce, Distinct, named-later, first-differs}
use Rattle.determination.proofs.Sums.{sum_same, sum-by-priority}

module _ (take : ℤ → Currency → ℤ) (rate : Currency → ℤ) where
  -- what comes together along the walk, where f r c comes in c while r points rest
  abbrev along : (ℤ → Currency → ℤ) → List Currency → ℤ → ℤ
  along f [] r = pos 0
  along f (c ∷ cs) r = f r c +ℤ along f cs (rest_after take rate r c)

  sum-along : (f : ℤ → Currency → ℤ) (cs : List Currency) → Distinct cs → (r : ℤ) → sum (λ d. f (rest_at take rate cs r d) d) cs ≡ along f cs r
  sum-along f [] distinct r = refl
  sum-along f (c ∷ cs) distinct r =
      let first : f (rest_at take rate (c ∷ cs) r c) c ≡ f r c = ap (λ z. f z c) (cond-true (is_same c c) _ _ (same-itself c)) in
      let others = sum_same (λ d. f (rest_at take rate (c ∷ cs) r d) d) (λ d. f (rest_at take rate cs (rest_after take rate r c) d) d) cs
      (λ d named. ap (λ z. f z d) (cond-false (is_same c d) _ _ (first-differs c d cs distinct named))) in
      let later = sum-along f cs (λ d. let l = named-later d c cs in let h = distinct d in omega arith) (rest_after take rate r c) in
      omega (arith, ints)

  sum-walked : (f : ℤ → Currency → ℤ) (cs : List Currency) → EachOnce cs → (r : ℤ) → sum (λ d. f (rest_at take rate cs r d) d) currencies ≡ along f cs r
  sum-walked f cs once r = sym (sum-by-priority _ cs once) ∙ sum-along f cs (λ c. let h = once c in omega arith) r

  -- where what is taken is worth zero or more, no rest is below zero or rises
  module _ (worth : (r : ℤ) (c : Currency) → pos 0 ≤ℤ r → pos 0 ≤ℤ (take r c *ℤ rate c)) where
    abbrev Between : ℤ → ℤ → Type 0
    Between r rest = (pos 0 ≤ℤ rest) × (rest ≤ℤ r)

    rest-after : (r : ℤ) (c : Currency) → pos 0 ≤ℤ r → Between r (rest_after take rate r c)
    rest-after r c h = let w = worth r c h in (omega (arith, ints, clamps), omega (arith, ints, clamps))

    pub rest-at : (cs : List Currency) (r : ℤ) (d : Currency) → pos 0 ≤ℤ r → Between r (rest_at take rate cs r d)
    rest-at [] r d h = (h, omega (arith, ints))
    rest-at (c ∷ cs) r d h =
        let a = rest-after r c h in let l = rest-at cs (rest_after take rate r c) d a.0 in
        cond_both (is_same c d) r (rest_at take rate cs (rest_after take rate r c) d) (Between r) (λ _. (h, omega (arith, ints))) (λ _. (l.0, omega (arith, ints)))

    pub rest-at-end : (cs : List Currency) (r : ℤ) → pos 0 ≤ℤ r → Between r (rest_at_end take rate cs r)
    rest-at-end [] r h = (h, omega (arith, ints))
    rest-at-end (c ∷ cs) r h = let a = rest-after r c h in let l = rest-at-end cs (rest_after take rate r c) a.0 in (l.0, omega (arith, ints))

    -- what rests at the end rested after each currency
    pub rest-after-each : (cs : List Currency) (r : ℤ) (d : Currency) → pos 0 ≤ℤ r → 0 < times d cs → rest_at_end take rate cs r ≤ℤ rest_after take rate (rest_at take rate cs r d) d
    rest-after-each [] r d h named = absurd (omega arith)
    rest-after-each (c ∷ cs) r d h named =
        let r' = rest_after take rate r c in
        let a = rest-after r c h in
        cond_both (is_same c d) r (rest_at take rate cs r' d) (λ z. rest_at_end take rate cs r' ≤ℤ rest_after take rate z d)
        (λ e. subst (λ k. rest_at_end take rate cs r' ≤ℤ rest_after take rate r k) (same-currency c d e) (rest-at-end cs r' a.0).1)
        (λ e. let n : 0 < times d cs = grind (arith, nat_tests) in rest-after-each cs r' d a.0 n)

    -- what holds step by step, with a part that only depends on the rest, holds of the sums
    along-compares : (f g : ℤ → Currency → ℤ) (part : ℤ → ℤ) →
        ((r : ℤ) (c : Currency) → pos 0 ≤ℤ r → (f r c +ℤ part r) ≤ℤ (g r c +ℤ part (rest_after take rate r c))) →
        (cs : List Currency) (r : ℤ) → pos 0 ≤ℤ r → (along f cs r +ℤ part r) ≤ℤ (along g cs r +ℤ part (rest_at_end take rate cs r))
    along-compares f g part step [] r h = omega (arith, ints)
    along-compares f g part step (c ∷ cs) r h =
        let s = step r c h in let l = along-compares f g part step cs (rest_after take rate r c) (rest-after r c h).0 in omega (arith, ints)

    pub walk-compares : (f g : ℤ → Currency → ℤ) (part : ℤ → ℤ) →
        ((r : ℤ) (c : Currency) → pos 0 ≤ℤ r → (f r c +ℤ part r) ≤ℤ (g r c +ℤ part (rest_after take rate r c))) →
        (cs : List Currency) → EachOnce cs → (r : ℤ) → pos 0 ≤ℤ r →
        (sum (λ d. f (rest_at take rate cs r d) d) currencies +ℤ part r) ≤ℤ (sum (λ d. g (rest_at take rate cs r d) d) currencies +ℤ part (rest_at_end take rate cs r))
    walk-compares f g part step cs once r h =
        let e = sum-walked f cs once r in let k = sum-walked g cs once r in let l = along-compares f g part step cs r h in omega (arith, ints)
