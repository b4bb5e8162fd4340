-- All points called in the first open currency.
use Rattle.std.proofs.Common.{◌≡◌, ℕ, ◌<◌, Bool, true, false, List, [], ◌∷◌, ℤ, pos, ◌*ℤ◌, ◌≤ℤ◌, is_some, Some, None, Option, sym, refl, subst, arith}
use Rattle.std.proofs.lemmas.Int.{ints}
use Rattle.std.proofs.lemmas.Bool.{cond-true, cond-false, cond_both}
use Rattle.std.proofs.lemmas.Bool.Decides.{nat_tests}
use Rattle.money.specs.declared.currency.Currency.{Currency}
use Rattle.money.specs.Currencies.{currencies, is_same}
use Rattle.money.specs.Options.{first_of}
use Rattle.account.specs.Priorities.{times}
use Rattle.determination.specs.Calls.{all_called_in}
use Rattle.determination.specs.Roundings.{rounded_up}
use Rattle.determination.specs.Valuations.{Market, sum}
use Rattle.money.proofs.EachCurrency.{same-itself}
use Rattle.determination.proofs.Namings.{passing-differs}
use Rattle.determination.proofs.Points.{rate-from-zero}
use Rattle.determination.proofs.Products.{worth-from-zero, rounded-up}
use Rattle.determination.proofs.Sums.{sum-none, sum-one-more}

-- there is a first, if a list names one that passes
pub first_some : (f : Currency → Bool) (c : Currency) (cs : List Currency) → 0 < times c cs → f c ≡ true → is_some (first_of f cs) ≡ true
first_some f c [] named passes = absurd (omega arith)
first_some f c (d ∷ ds) named passes =
    cond_both (f d) (Some d) (first_of f ds) (λ o. is_some o ≡ true) (λ _. refl)
    (λ fails. let other = passing-differs f c d passes fails in first_some f c ds (grind (arith, nat_tests)) passes)

module _ (m : Market) (rated : (c : Currency) → pos 1 ≤ℤ m.rate c) where
  pub all-from-zero : (o : Option Currency) (r : ℤ) → pos 0 ≤ℤ r → (d : Currency) → pos 0 ≤ℤ all_called_in m o r d
  all-from-zero None r h d = omega (arith, ints)
  all-from-zero (Some c) r h d = cond_both (is_same c d) _ _ (λ w. pos 0 ≤ℤ w) (λ _. (rounded-up r (m.rate c) h (rated c)).from_zero) (λ _. omega (arith, ints))

  pub all_none : (o : Option Currency) (r : ℤ) → r ≡ pos 0 → (d : Currency) → all_called_in m o r d ≡ pos 0
  all_none None r e d = refl
  all_none (Some c) r e d = cond_both (is_same c d) _ _ (λ w. w ≡ pos 0) (λ _. (rounded-up r (m.rate c) (omega (arith, ints)) (rated c)).none e) (λ _. refl)

  pub all-none-shut : (cs : List Currency) (r : ℤ) (d : Currency) → m.is_open d ≡ false → all_called_in m (first_of m.is_open cs) r d ≡ pos 0
  all-none-shut [] r d shut = refl
  all-none-shut (c ∷ cs) r d shut =
      cond_both (m.is_open c) (Some c) (first_of m.is_open cs) (λ o. all_called_in m o r d ≡ pos 0)
      (λ opened. cond-false (is_same c d) _ _ (passing-differs m.is_open c d opened shut)) (λ _. all-none-shut cs r d shut)

  -- what is called is worth at least the points, in that currency and so in all
  pub all_there : (o : Option Currency) (c : Currency) → o ≡ Some c → (r : ℤ) → pos 0 ≤ℤ r → r ≤ℤ (all_called_in m o r c *ℤ m.rate c)
  all_there o c is r h =
      let there : all_called_in m (Some c) r c ≡ rounded_up r (m.rate c) = cond-true (is_same c c) _ _ (same-itself c) in
      subst (λ o. r ≤ℤ (all_called_in m o r c *ℤ m.rate c)) (sym is) (subst (λ w. r ≤ℤ (w *ℤ m.rate c)) (sym there) (rounded-up r (m.rate c) h (rated c)).enough)

  pub all-suffices : (o : Option Currency) → is_some o ≡ true → (r : ℤ) → pos 0 ≤ℤ r → r ≤ℤ sum (λ d. all_called_in m o r d *ℤ m.rate d) currencies
  all-suffices None some r h = let z : ◌≡◌ {A = ℕ} 0 1 = cc in absurd (omega arith)
  all-suffices (Some c) some r h =
      let there = all_there (Some c) c refl r h in
      let more = sum-one-more (λ d. pos 0) (λ d. all_called_in m (Some c) r d *ℤ m.rate d) r c
      (λ d. worth-from-zero _ (m.rate d) (rate-from-zero m rated d) (all-from-zero (Some c) r h d)) (omega (arith, ints)) in
      let none = sum-none currencies in
      omega (arith, ints)
