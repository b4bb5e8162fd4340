-- The order in which the currencies of an account are gone through.
use Rattle.std.specs.Prelude.{ℕ, suc, Bool, cond, List, [], ◌∷◌, ◌++◌, Some, None, Option, nat_eq}
use Rattle.money.specs.declared.currency.Currency.{Currency}
use Rattle.money.specs.Currencies.{currencies, currency_of, is_same, letters}
use Rattle.money.specs.Options.{before, every}

-- how often a currency is named
abbrev pub times : Currency → List Currency → ℕ
times c [] = 0
times c (d ∷ ds) = cond (is_same c d) (suc (times c ds)) (times c ds)

-- each currency is named once
abbrev pub names_each_once : List Currency → Bool
names_each_once order = every (λ c. nat_eq (times c order) 1) currencies

-- the letters of currencies, one after another
abbrev pub letters_all : List Currency → List ℕ
letters_all [] = []
letters_all (c ∷ cs) = letters c ++ letters_all cs

-- the currencies that a text names, three letters each
abbrev pub named : List ℕ → Option (List Currency)
named [] = Some []
named (a ∷ []) = None
named (a ∷ b ∷ []) = None
named (a ∷ b ∷ c ∷ text) = before (currency_of (a ∷ b ∷ c ∷ [])) (λ k. before (named text) (λ ks. Some (k ∷ ks)))

-- the priority that a text writes, if it names each currency once
unfoldable pub priority_of : List ℕ → Option (List Currency)
priority_of text = before (named text) (λ order. cond (names_each_once order) (Some order) None)
