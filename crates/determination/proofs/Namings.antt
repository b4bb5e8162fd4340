-- How often a list names a currency.
use Rattle.std.proofs.Common.{◌≡◌, ◌<◌, ◌≤◌, Bool, true, false, eqb, List, ◌∷◌, sym, refl, ap, ◌∙◌, arith}
use Rattle.std.proofs.lemmas.Bool.{both_ways, eqb-true}
use Rattle.std.proofs.lemmas.Bool.Decides.{nat_tests}
use Rattle.money.specs.declared.currency.Currency.{Currency}
use Rattle.money.specs.Currencies.{currencies, is_same}
use Rattle.money.proofs.EachCurrency.{each, same-itself, different}
use Rattle.account.specs.Priorities.{times, names_each_once}

-- a currency that passes a test is not one that fails it
pub passing-differs : (f : Currency → Bool) (c d : Currency) → f c ≡ true → f d ≡ false → is_same c d ≡ false
passing-differs f c d passes fails = different c d (λ s. both_ways (f d) fails (ap f (sym s) ∙ passes))

-- NAMED ONCE

pub named-first : (c : Currency) (cs : List Currency) → 0 < times c (c ∷ cs)
named-first c cs = grind (arith, nat_tests)

pub named-later : (c d : Currency) (cs : List Currency) → times c cs ≤ times c (d ∷ cs)
named-later c d cs = grind (arith, nat_tests)

-- none is named twice
abbrev pub Distinct : List Currency → Type 0
Distinct cs = (c : Currency) → times c cs ≤ 1

pub first-differs : (c d : Currency) (cs : List Currency) → Distinct (c ∷ cs) → 0 < times d cs → is_same c d ≡ false
first-differs c d cs distinct later =
    different c d (λ s. let l : 0 < times c cs = rw s later in let once = distinct c in let itself = same-itself c in grind (arith, nat_tests))

-- each is named once
abbrev pub EachOnce : List Currency → Type 0
EachOnce cs = (c : Currency) → times c cs ≡ 1

pub each-once : (cs : List Currency) → names_each_once cs ≡ true → EachOnce cs
each-once cs named c = eqb-true (times c cs) 1 (each (λ c. eqb (times c cs) 1) named c)

pub currencies-once : EachOnce currencies
currencies-once = each-once currencies refl
