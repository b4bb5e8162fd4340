-- The currencies that a text names, one after another.
use Rattle.std.proofs.Common.{◌≡◌, ℕ, suc, ◌+◌, ◌*◌, ◌<◌, ◌≤◌, Bool, true, false, cond, eqb, List, [], ◌∷◌, ◌++◌, length, take, set, Some, None, Option, sym, refl, ap, ◌∙◌, subst, append_assoc, append-nil, arith, take_all, eqb-true}
use borrow.Author.Tests.{eqb-false}
use Rattle.std.proofs.lemmas.List.{take_more_set}
use Rattle.std.proofs.lemmas.Bool.{and_parts}
use Rattle.std.proofs.lemmas.List.Recursion.{is_count_by}
use Rattle.std.specs.List.{count_by}
use Rattle.money.specs.declared.currency.Currency.{Currency}
use Rattle.money.specs.Currencies.{currencies, is_same, currency_of}
use Rattle.money.specs.Options.{before, every}
use Rattle.money.proofs.EachCurrency.{each}
use Rattle.account.specs.Orders.{each_once, of_all}
use Rattle.account.specs.Priorities.{times, names_each_once, named, priority_of}

-- currencies that stand before others
abbrev pub after : List Currency → Option (List Currency) → Option (List Currency)
after ks o = before o (λ rest. Some (ks ++ rest))

-- HOW OFTEN A CURRENCY IS NAMED

pub counted : (k : Currency) (order : List Currency) → times k order ≡ count_by (is_same k) order
counted k order = is_count_by (times k) (is_same k) refl (λ x xs. let one : suc (times k xs) ≡ 1 + times k xs = omega arith in ap (λ n. cond (is_same k x) n (times k xs)) one) order

-- WHAT A TEXT NAMES

first-named : (x rest : List ℕ) → length x ≡ 3 → named (x ++ rest) ≡ before (currency_of x) (λ k. after (k ∷ []) (named rest))
first-named [] rest e = absurd (omega arith)
first-named (a ∷ []) rest e = absurd (omega arith)
first-named (a ∷ b ∷ []) rest e = absurd (omega arith)
first-named (a ∷ b ∷ c ∷ []) rest e = refl
first-named (a ∷ b ∷ c ∷ d ∷ x) rest e = absurd (omega arith)

after_more : (ks : List Currency) (k : Currency) (o : Option (List Currency)) → after ks (after (k ∷ []) o) ≡ after (ks ++ (k ∷ [])) o
after_more ks k None = refl
after_more ks k (Some rest) = ap Some (sym (append_assoc ks (k ∷ []) rest))

-- one more currency is read at its place
pub named_more : (text x rest : List ℕ) (order : List Currency) (i : ℕ) (k : Currency) → i < length order → length x ≡ 3 → named text ≡ after (take i order) (named (x ++ rest)) → currency_of x ≡ Some k → named text ≡ after (take (i + 1) (set order i k)) (named rest)
named_more text x rest order i k lt three before-it is =
    before-it ∙ ap (after (take i order)) (first-named x rest three ∙ rw is)
    ∙ after_more (take i order) k (named rest)
    ∙ ap (λ ks. after ks (named rest)) (sym (take_more_set order i k lt))

-- and where it is none, the text names no currencies
pub named_none : (text x rest : List ℕ) (ks : List Currency) → length x ≡ 3 → named text ≡ after ks (named (x ++ rest)) → currency_of x ≡ None → named text ≡ None
named_none text x rest ks three before-it is =
    let none : named (x ++ rest) ≡ None = first-named x rest three ∙ rw is in
    before-it ∙ ap (after ks) none

-- at the end all are read
pub named-all : (text rest : List ℕ) (order : List Currency) (i : ℕ) → length rest ≡ 0 → length order ≤ i → named text ≡ after (take i order) (named rest) → named text ≡ Some order
named-all text [] order i end all before-it = before-it ∙ rw (take_all i order all) (ap Some (append-nil order))
named-all text (a ∷ rest) order i end all before-it = absurd (omega arith)

-- HOW LONG IT IS

named-long : (text : List ℕ) (order : List Currency) → named text ≡ Some order → length text ≡ 3 * length order
named-long [] order e = let same : [] ≡ order = cc in subst (λ ks. 0 ≡ 3 * length ks) same refl
named-long (a ∷ []) order e = let z : ◌≡◌ {A = ℕ} 0 1 = cc in absurd (omega arith)
named-long (a ∷ b ∷ []) order e = let z : ◌≡◌ {A = ℕ} 0 1 = cc in absurd (omega arith)
named-long (a ∷ b ∷ c ∷ text) order e = go (currency_of (a ∷ b ∷ c ∷ [])) (named text) (named-long text) e
  where
    go : (k : Option Currency) (rest : Option (List Currency)) → ((order : List Currency) → rest ≡ Some order → length text ≡ 3 * length order) → before k (λ k. before rest (λ ks. Some (k ∷ ks))) ≡ Some order → length (a ∷ b ∷ c ∷ text) ≡ 3 * length order
    go None rest is e = let z : ◌≡◌ {A = ℕ} 0 1 = cc in absurd (omega arith)
    go (Some k) None is e = let z : ◌≡◌ {A = ℕ} 0 1 = cc in absurd (omega arith)
    go (Some k) (Some ks) is e = let same : k ∷ ks ≡ order = cc in subst (λ os. length (a ∷ b ∷ c ∷ text) ≡ 3 * length os) same (omega (arith, is ks refl))

-- of some currencies, how many are that one
abbrev among : Currency → List Currency → ℕ
among d [] = 0
among d (c ∷ cs) = cond (is_same c d) 1 0 + among d cs

-- how often some currencies are named in all
abbrev times_all : List Currency → List Currency → ℕ
times_all [] ds = 0
times_all (c ∷ cs) ds = times c ds + times_all cs ds

all_more : (cs ds : List Currency) (d : Currency) → times_all cs (d ∷ ds) ≡ among d cs + times_all cs ds
all_more [] ds d = refl
all_more (c ∷ cs) ds d = by (is_same c d) (all_more cs ds d)
  where
    by : (b : Bool) → times_all cs (d ∷ ds) ≡ among d cs + times_all cs ds → cond b (suc (times c ds)) (times c ds) + times_all cs (d ∷ ds) ≡ (cond b 1 0 + among d cs) + (times c ds + times_all cs ds)
    by true e = omega arith
    by false e = omega arith

each-among : (d : Currency) → among d currencies ≡ 1
each-among d = eqb-true (among d currencies) 1 (each (λ d. eqb (among d currencies) 1) refl d)

-- every currency named is one of them
all_named : (ds : List Currency) → times_all currencies ds ≡ length ds
all_named [] = refl
all_named (d ∷ ds) = omega (arith, all_more currencies ds d, each-among d, all_named ds)

all_once : (cs ds : List Currency) → every (λ c. eqb (times c ds) 1) cs ≡ true → times_all cs ds ≡ length cs
all_once [] ds e = refl
all_once (c ∷ cs) ds e = let p = and_parts (eqb (times c ds) 1) (every (λ c. eqb (times c ds) 1) cs) e in omega (arith, eqb-true _ 1 p.0, all_once cs ds p.1)

pub once-long : (order : List Currency) → names_each_once order ≡ true → length order ≡ length currencies
once-long order e = sym (all_named order) ∙ all_once currencies order e

-- a text of another length writes no priority
pub priority-of-all : (text : List ℕ) → before (of_all text) each_once ≡ priority_of text
unfolding priority_of
priority-of-all text = go (named text) refl (eqb (length text) (3 * length currencies)) refl
  where
    other : (order : List Currency) (b : Bool) → names_each_once order ≡ b → length text ≡ 3 * length order → eqb (length text) (3 * length currencies) ≡ false → None ≡ cond b (Some order) None
    other order true is long e = absurd (eqb-false _ _ e (omega (arith, once-long order is)))
    other order false is long e = refl

    go : (o : Option (List Currency)) → named text ≡ o → (b : Bool) → eqb (length text) (3 * length currencies) ≡ b → before (cond b o None) each_once ≡ before o each_once
    go o is true e = refl
    go None is false e = refl
    go (Some order) is false e = other order (names_each_once order) refl (named-long text order is) e
