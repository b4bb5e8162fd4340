-- Sums over currencies.
use Rattle.std.proofs.Common.{◌≡◌, suc, ◌<◌, Bool, true, false, cond, List, [], ◌∷◌, ℤ, pos, ◌+ℤ◌, ◌≤ℤ◌, sym, refl, ap, ◌∙◌, arith}
use Rattle.std.proofs.lemmas.Int.{ints}
use Rattle.std.proofs.lemmas.Bool.Decides.{nat_tests}
use Rattle.money.specs.declared.currency.Currency.{Currency}
use Rattle.money.specs.Currencies.{currencies, is_same}
use Rattle.account.specs.Priorities.{times}
use Rattle.determination.specs.Valuations.{sum}
use Rattle.money.proofs.EachCurrency.{same-currency}
use Rattle.determination.proofs.Namings.{Distinct, EachOnce, currencies-once, first-differs, named-first, named-later}

-- the same amounts come to the same
pub sum_same : (f g : Currency → ℤ) (cs : List Currency) → ((c : Currency) → 0 < times c cs → f c ≡ g c) → sum f cs ≡ sum g cs
sum_same f g [] same = refl
sum_same f g (c ∷ cs) same =
    let first = same c (named-first c cs) in
    let later = sum_same f g cs (λ d named. let l = named-later d c cs in same d (omega arith)) in
    omega (arith, ints)

-- amounts that are no less come to no less
pub sum-rises : (f g : Currency → ℤ) (cs : List Currency) → ((c : Currency) → f c ≤ℤ g c) → sum f cs ≤ℤ sum g cs
sum-rises f g [] rises = omega (arith, ints)
sum-rises f g (c ∷ cs) rises = let first = rises c in let later = sum-rises f g cs rises in omega (arith, ints)

-- amounts that are no less than two others together come to no less
pub sum-joins : (f g h : Currency → ℤ) (cs : List Currency) → ((c : Currency) → (f c +ℤ g c) ≤ℤ h c) → (sum f cs +ℤ sum g cs) ≤ℤ sum h cs
sum-joins f g h [] joins = omega (arith, ints)
sum-joins f g h (c ∷ cs) joins = let first = joins c in let later = sum-joins f g h cs joins in omega (arith, ints)

pub sum-none : (cs : List Currency) → sum (λ c. pos 0) cs ≡ pos 0
sum-none [] = refl
sum-none (c ∷ cs) = let later = sum-none cs in omega (arith, ints)

-- ONE CURRENCY APART

-- a list without the first that is c
abbrev without : Currency → List Currency → List Currency
without c [] = []
without c (d ∷ ds) = cond (is_same c d) ds (d ∷ without c ds)

sum-without : (f : Currency → ℤ) (c : Currency) (cs : List Currency) → 0 < times c cs → sum f cs ≡ f c +ℤ sum f (without c cs)
sum-without f c [] named = absurd (omega arith)
sum-without f c (d ∷ ds) named = by (is_same c d) refl named (sum-without f c ds)
  where
    by : (b : Bool) → is_same c d ≡ b → 0 < cond b (suc (times c ds)) (times c ds) → (0 < times c ds → sum f ds ≡ f c +ℤ sum f (without c ds)) →
        f d +ℤ sum f ds ≡ f c +ℤ sum f (cond b ds (d ∷ without c ds))
    by true e named later = ap (λ k. f k +ℤ sum f ds) (sym (same-currency c d e))
    by false e named later = let l = later named in omega (arith, ints)

times-without : (c d : Currency) (cs : List Currency) → 0 < times c cs → times d cs ≡ times d (c ∷ without c cs)
times-without c d [] named = absurd (omega arith)
times-without c d (k ∷ ks) named = by (is_same c k) refl named (times-without c d ks)
  where
    by : (b : Bool) → is_same c k ≡ b → 0 < cond b (suc (times c ks)) (times c ks) → (0 < times c ks → times d ks ≡ times d (c ∷ without c ks)) →
        times d (k ∷ ks) ≡ times d (c ∷ cond b ks (k ∷ without c ks))
    by true e named later = ap (λ k. times d (k ∷ ks)) (sym (same-currency c k e))
    by false e named later = let l = later named in grind (arith, nat_tests)

-- where one currency comes to more by k and no other to less, all come to more by k
pub sum-one-more : (f g : Currency → ℤ) (k : ℤ) (c : Currency) → ((d : Currency) → f d ≤ℤ g d) → (f c +ℤ k) ≤ℤ g c → (sum f currencies +ℤ k) ≤ℤ sum g currencies
sum-one-more f g k c rises more =
    let named : 0 < times c currencies = let once = currencies-once c in omega arith in
    let a = sum-without f c currencies named in let b = sum-without g c currencies named in
    let r = sum-rises f g (without c currencies) rises in
    omega (arith, ints)

sum-rises-on : (f g : Currency → ℤ) (cs : List Currency) → ((c : Currency) → 0 < times c cs → f c ≤ℤ g c) → sum f cs ≤ℤ sum g cs
sum-rises-on f g [] rises = omega (arith, ints)
sum-rises-on f g (c ∷ cs) rises =
    let here = rises c (named-first c cs) in
    let later = sum-rises-on f g cs (λ d named. rises d (omega (arith, named-later d c cs))) in
    omega (arith, ints)

-- where one currency comes to less by at most k and no other to less, all come to less by at most k
pub sum-one-less : (f g : Currency → ℤ) (k : ℤ) (c : Currency) → ((d : Currency) → is_same c d ≡ false → f d ≤ℤ g d) → f c ≤ℤ (g c +ℤ k) → sum f currencies ≤ℤ (sum g currencies +ℤ k)
sum-one-less f g k c others here =
    let named : 0 < times c currencies = let once = currencies-once c in omega arith in
    let a = sum-without f c currencies named in let b = sum-without g c currencies named in
    let distinct : Distinct (c ∷ without c currencies) = λ d. omega (arith, times-without c d currencies named, currencies-once d) in
    let r = sum-rises-on f g (without c currencies) (λ d left. others d (first-differs c d (without c currencies) distinct left)) in
    omega (arith, ints)

-- ANOTHER ORDER

-- a sum does not depend on the order
sum-reordered : (f : Currency → ℤ) (cs ds : List Currency) → ((c : Currency) → times c cs ≡ times c ds) → sum f cs ≡ sum f ds
sum-reordered f [] [] same = refl
sum-reordered f [] (d ∷ ds) same = let s = same d in let n = named-first d ds in absurd (omega arith)
sum-reordered f (c ∷ cs) ds same =
    let s = same c in let n = named-first c cs in let named : 0 < times c ds = omega arith in
    let later = sum-reordered f cs (without c ds) (λ d. let t = same d ∙ times-without c d ds named in grind (arith, nat_tests)) in
    let apart = sum-without f c ds named in
    omega (arith, ints)

pub sum-by-priority : (f : Currency → ℤ) (priority : List Currency) → EachOnce priority → sum f priority ≡ sum f currencies
sum-by-priority f priority once = sum-reordered f priority currencies (λ c. once c ∙ sym (currencies-once c))
