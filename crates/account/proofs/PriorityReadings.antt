-- A priority is read from the letters of its currencies, and written as them.
use Rattle.std.proofs.Common.{◌≡◌, ℕ, ◌*◌, Bool, true, false, cond, leb, List, [], ◌∷◌, ◌++◌, length, Some, None, Option, refl, ap, ◌∙◌, subst, arith, length-append}
use Rattle.std.proofs.lemmas.Bool.{and_parts, and_from}
use Rattle.money.specs.declared.currency.Currency.{Currency}
use Rattle.money.specs.Currencies.{currencies, letters, currency_of}
use Rattle.money.specs.Options.{before, every}
use Rattle.money.proofs.Readings.{currency-says, currency-reads, letters-capital, letters-three}
use Rattle.account.specs.Priorities.{names_each_once, letters_all, named, priority_of}
use Rattle.account.proofs.Namings.{once-long}

-- WRITTEN, THEN READ

named-after : (t rest : List ℕ) (k : Currency) (ks : List Currency) → length t ≡ 3 → currency_of t ≡ Some k → named rest ≡ Some ks → named (t ++ rest) ≡ Some (k ∷ ks)
named-after [] rest k ks three is more = absurd (omega arith)
named-after (a ∷ []) rest k ks three is more = absurd (omega arith)
named-after (a ∷ b ∷ []) rest k ks three is more = absurd (omega arith)
named-after (a ∷ b ∷ c ∷ []) rest k ks three is more = rw (is, more)
named-after (a ∷ b ∷ c ∷ d ∷ t) rest k ks three is more = absurd (omega arith)

named-reads : (order : List Currency) → named (letters_all order) ≡ Some order
named-reads [] = refl
named-reads (c ∷ cs) = named-after (letters c) (letters_all cs) c cs (letters-three c) (currency-reads c) (named-reads cs)

pub priority-reads : (order : List Currency) → names_each_once order ≡ true → priority_of (letters_all order) ≡ Some order
unfolding priority_of
priority-reads order e = rw (named-reads order, e)

-- READ, THEN WRITTEN

named-says : (text : List ℕ) (order : List Currency) → named text ≡ Some order → letters_all order ≡ text
named-says [] order e = let same : [] ≡ order = cc in subst (λ ks. letters_all ks ≡ []) same refl
named-says (a ∷ []) order e = let z : ◌≡◌ {A = ℕ} 0 1 = cc in absurd (omega arith)
named-says (a ∷ b ∷ []) order e = let z : ◌≡◌ {A = ℕ} 0 1 = cc in absurd (omega arith)
named-says (a ∷ b ∷ c ∷ text) order e = go (currency_of (a ∷ b ∷ c ∷ [])) refl (named text) (named-says text) e
  where
    go : (k : Option Currency) → currency_of (a ∷ b ∷ c ∷ []) ≡ k → (rest : Option (List Currency)) → ((order : List Currency) → rest ≡ Some order → letters_all order ≡ text) → before k (λ k. before rest (λ ks. Some (k ∷ ks))) ≡ Some order → letters_all order ≡ a ∷ b ∷ c ∷ text
    go None is rest more e = let z : ◌≡◌ {A = ℕ} 0 1 = cc in absurd (omega arith)
    go (Some k) is None more e = let z : ◌≡◌ {A = ℕ} 0 1 = cc in absurd (omega arith)
    go (Some k) is (Some ks) more e =
        let same : k ∷ ks ≡ order = cc in
        subst (λ os. letters_all os ≡ a ∷ b ∷ c ∷ text) same (λ i. currency-says (a ∷ b ∷ c ∷ []) k is i ++ more ks refl i)

pub priority-says : (text : List ℕ) (order : List Currency) → priority_of text ≡ Some order → (names_each_once order ≡ true) × (letters_all order ≡ text)
unfolding priority_of
priority-says text order e = go (named text) refl e
  where
    once : (os : List Currency) (b : Bool) → names_each_once os ≡ b → letters_all os ≡ text → cond b (Some os) None ≡ Some order → (names_each_once order ≡ true) × (letters_all order ≡ text)
    once os true is same e = let o : os ≡ order = cc in subst (λ os. (names_each_once os ≡ true) × (letters_all os ≡ text)) o (is, same)
    once os false is same e = let z : ◌≡◌ {A = ℕ} 0 1 = cc in absurd (omega arith)

    go : (o : Option (List Currency)) → named text ≡ o → before o (λ order. cond (names_each_once order) (Some order) None) ≡ Some order → (names_each_once order ≡ true) × (letters_all order ≡ text)
    go None is e = let z : ◌≡◌ {A = ℕ} 0 1 = cc in absurd (omega arith)
    go (Some os) is e = once os (names_each_once os) refl (named-says text os is) e

-- THE LETTERS

every-joined : (f : ℕ → Bool) (xs ys : List ℕ) → every f xs ≡ true → every f ys ≡ true → every f (xs ++ ys) ≡ true
every-joined f [] ys e g = g
every-joined f (x ∷ xs) ys e g = let p = and_parts (f x) (every f xs) e in and_from _ _ p.0 (every-joined f xs ys p.1 g)

pub all-capital : (order : List Currency) → every (λ b. leb 65 b) (letters_all order) ≡ true
all-capital [] = refl
all-capital (c ∷ cs) = every-joined _ (letters c) (letters_all cs) (letters-capital c) (all-capital cs)

all-long : (order : List Currency) → length (letters_all order) ≡ 3 * length order
all-long [] = refl
all-long (c ∷ cs) = length-append (letters c) (letters_all cs) ∙ omega (arith, letters-three c, all-long cs)

pub priority-long : (order : List Currency) → names_each_once order ≡ true → length (letters_all order) ≡ 3 * length currencies
priority-long order e = all-long order ∙ ap (λ n. 3 * n) (once-long order e)
