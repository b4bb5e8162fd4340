-- What records write into their fields.
use Rattle.std.proofs.Common.{◌≡◌, ℕ, suc, ◌+◌, ◌<◌, ◌≤◌, Bool, true, false, not, ◌&&◌, ◌||◌, leb, List, [], ◌∷◌, ◌++◌, length, get_or, take, ℤ, pos, negsuc, neg_ℤ, nat_abs, ◌≤ℤ◌, decimal, sym, refl, ap, ◌∙◌, append_assoc, append-nil, arith, ne_eqb, leb-true}
use Rattle.std.proofs.lemmas.Fmt.{length-decimal-le}
use Rattle.std.proofs.lemmas.List.{take_more}
use Rattle.std.proofs.lemmas.Int.{ints}
use Rattle.std.proofs.lemmas.Bool.{and_parts}
use Rattle.std.specs.Fmt.{signed_decimal}
use Rattle.money.specs.declared.code.Code.{Code}
use Rattle.money.specs.declared.currency.Currency.{Currency}
use Rattle.money.specs.declared.range.Range.{Range}
use Rattle.money.specs.declared.status.Status.{Status}
use Rattle.money.specs.declared.status.Status.TheVariants.{Open, Shut}
use Rattle.money.specs.Codes.{shown_code}
use Rattle.money.specs.Currencies.{letters}
use Rattle.money.specs.Options.{every}
use Rattle.money.specs.Ranges.{bound, within, optimization_range}
use Rattle.money.specs.Statuses.{flag_of}
use Rattle.money.proofs.CodeReadings.{code-high}
use Rattle.money.proofs.Readings.{letters-capital}
use Rattle.account.specs.declared.terms.DebitSetting.{DebitSetting}
use Rattle.account.specs.declared.terms.DebitSetting.TheVariants.{MarginCurrency, BaseCurrency}
use Rattle.account.specs.declared.terms.Level.{Level}
use Rattle.account.specs.declared.terms.Level.TheVariants.{MarginRequirement, CashOptimization}
use Rattle.account.specs.Priorities.{letters_all}
use Rattle.account.specs.Terms.{level_number, setting_number}
use Rattle.account.proofs.PriorityReadings.{all-capital}
use Rattle.account.proofs.Ranges.{within-says}
use Rattle.text.specs.Cuts.{Free}
use Rattle.text.specs.Numbers.{Short}
use Rattle.lines.specs.Lines.{Word}
use Rattle.records.specs.Records.{well_formed}

-- TEXTS

high-free : (low m : ℕ) (bs : List ℕ) → m < low → every (λ b. leb low b) bs ≡ true → Free m bs
high-free low m [] under e = tt
high-free low m (b ∷ bs) under e =
    let p = and_parts (leb low b) (every (λ b. leb low b) bs) e in
    (ne_eqb b m (λ s. omega (arith, leb-true low b p.0)), high-free low m bs under p.1)

-- characters from the digits on are neither tab nor line feed
high_word : (low : ℕ) (bs : List ℕ) → 10 < low → every (λ b. leb low b) bs ≡ true → Word bs
high_word low bs over e = (high-free low 9 bs (omega arith) e, high-free low 10 bs over e)

pub letters-word : (c : Currency) → Word (letters c)
letters-word c = high_word 65 (letters c) (omega arith) (letters-capital c)

pub code-word : (c : Code) → well_formed c ≡ true → Word (shown_code c)
code-word c e = high_word 48 (shown_code c) (omega arith) (code-high c e)

pub order-word : (order : List Currency) → Word (letters_all order)
order-word order = high_word 65 (letters_all order) (omega arith) (all-capital order)

-- NUMBERS

-- a number that a field holds whole
abbrev pub Fielded : ℤ → Type 0
Fielded z = Short z × (length (signed_decimal z) ≤ 13)

-- an amount, whichever way it is due
bounded-fielded : (x : ℤ) → neg_ℤ bound ≤ℤ x → x ≤ℤ bound → Fielded x
bounded-fielded (pos n) low high =
    let small : n ≤ 100000000000 = omega (arith, ints, high) in
    let long : length (decimal n) ≤ 12 = length-decimal-le 12 n (omega arith) (omega arith) (omega arith) in
    (omega arith, omega arith)
bounded-fielded (negsuc n) low high =
    let small : suc n ≤ 100000000000 = omega (arith, ints, low) in
    let long : length (decimal (suc n)) ≤ 12 = length-decimal-le 12 (suc n) (omega arith) (omega arith) (omega arith) in
    (omega arith, omega arith)

-- a figure of any range that lies within the bound
pub figure-fielded : (range : Range) (x : ℤ) → neg_ℤ bound ≤ℤ range.low → range.high ≤ℤ bound → within range x ≡ true → Fielded x
figure-fielded range x low high e =
    let p = within-says range x e in
    bounded-fielded x (omega (arith, ints, low, p.0)) (omega (arith, ints, high, p.1))

pub optimization-natural : (x : ℤ) → within optimization_range x ≡ true → x ≡ pos (nat_abs x)
optimization-natural (pos n) e = refl
optimization-natural (negsuc n) e = let z : ◌≡◌ {A = ℕ} 0 1 = cc in absurd (omega arith)

one-fielded : Fielded (pos 1)
one-fielded = bounded-fielded (pos 1) (omega (arith, ints)) (omega (arith, ints))

two-fielded : Fielded (pos 2)
two-fielded = bounded-fielded (pos 2) (omega (arith, ints)) (omega (arith, ints))

pub flag-fielded : (s : Status) → Fielded (flag_of s)
flag-fielded Open = bounded-fielded (pos 0) (omega (arith, ints)) (omega (arith, ints))
flag-fielded Shut = one-fielded

pub level-fielded : (l : Level) → Fielded (level_number l)
level-fielded MarginRequirement = one-fielded
level-fielded CashOptimization = two-fielded

pub setting-fielded : (d : DebitSetting) → Fielded (setting_number d)
setting-fielded MarginCurrency = one-fielded
setting-fielded BaseCurrency = two-fielded

-- one more currency is written
pub letters-more : (order : List Currency) (i : ℕ) (d : Currency) → i < length order → letters_all (take i order) ++ letters (get_or order i d) ≡ letters_all (take (i + 1) order)
letters-more order i d lt = sym (ap letters_all (take_more order i d lt) ∙ joined (take i order) (get_or order i d))
  where
    joined : (ks : List Currency) (k : Currency) → letters_all (ks ++ (k ∷ [])) ≡ letters_all ks ++ letters k
    joined [] k = append-nil (letters k)
    joined (c ∷ cs) k = ap (λ t. letters c ++ t) (joined cs k) ∙ sym (append_assoc (letters c) (letters_all cs) (letters k))

-- a test that one of two figures is outside is a test that not both are inside
pub not_both : (a b : Bool) → (not a || not b) ≡ not (a && b)
not_both true b = refl
not_both false b = refl
