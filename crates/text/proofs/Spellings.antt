-- What is read as a number is what is written of it, and the other way round.
use Rattle.std.proofs.Common.{◌≡◌, ℕ, zero, suc, ◌^◌, ◌<◌, ◌≤◌, Bool, true, false, cond, eqb, leb, List, [], ◌∷◌, length, get_or, drop, ℤ, pos, negsuc, neg_ℤ, Some, None, decimal, Option, sym, refl, ap, ◌∙◌, subst, arith, ne_eqb, eqb-true, le-leb, leb-true}
use borrow.Author.Tests.{eqb-false}
use Rattle.std.specs.Str.Parse.{digits_value}
use Rattle.std.specs.Fmt.{signed_decimal}
use Rattle.std.specs.Str.{all_ascii_digits}
use Rattle.std.proofs.lemmas.Str.Parse.{digits_value_short, not_in_digits}
use Rattle.std.proofs.lemmas.Fmt.{decimal-digits_value, digits_decimal, digits_value-decimal, length-decimal-le, decimal_nonempty, decimal_digit, first_decimal}
use Rattle.text.specs.Cuts.{Free}
use Rattle.money.specs.Options.{before}
use Rattle.text.proofs.CutLaws.{free-from, some_same}
use Rattle.text.specs.Numbers.{counted, natural, below_zero, number_of, Short}
use Rattle.text.proofs.DigitLaws.{own}

-- digits written by the rules: n is what they say
pub record Spelt (ds : List ℕ) (n : ℕ) : Type 0 where
  pub small : n < 10 ^ 12
  pub text : decimal n ≡ ds

-- what went on came from something
pub before-some : {X Y : Type 0} (o : Option X) (f : X → Option Y) (y : Y) → before o f ≡ Some y → (x : X) × (o ≡ Some x) × (f x ≡ Some y)
before-some None f y e = let z : ◌≡◌ {A = ℕ} 0 1 = cc in absurd (omega arith)
before-some (Some x) f y e = (x, refl, e)

pub if-then : {X : Type 0} (b : Bool) (o : Option X) (x : X) → cond b o None ≡ Some x → (b ≡ true) × (o ≡ Some x)
if-then true o x e = (refl, e)
if-then false o x e = let z : ◌≡◌ {A = ℕ} 0 1 = cc in absurd (omega arith)

pub if-else : {X : Type 0} (b : Bool) (o : Option X) (x : X) → cond b None o ≡ Some x → (b ≡ false) × (o ≡ Some x)
if-else true o x e = let z : ◌≡◌ {A = ℕ} 0 1 = cc in absurd (omega arith)
if-else false o x e = (refl, e)

-- digits with no leading zero are what is written of their value
spelt : (ds : List ℕ) (n : ℕ) → 0 < length ds → length ds ≤ 12 → (get_or ds 0 0 ≡ 48 → length ds ≡ 1) → counted ds ≡ Some n → Spelt ds n
spelt ds n some few lead e =
    let p = if-then (all_ascii_digits ds) (Some (digits_value 10 ds)) n e in
    let is : digits_value 10 ds ≡ n = cc p.1 in
    let small = digits_value_short own ds 12 p.0 few in
    record { small = omega (arith, is, small); text = ap decimal (sym is) ∙ decimal-digits_value own ds p.0 some lead (omega (arith, small)) }

pub natural-says : (ds : List ℕ) (n : ℕ) → natural ds ≡ Some n → Spelt ds n
natural-says [] n e = let z : ◌≡◌ {A = ℕ} 0 1 = cc in absurd (omega arith)
natural-says (c ∷ []) n e = spelt (c ∷ []) n (omega arith) (omega arith) (λ _. refl) e
natural-says (c ∷ d ∷ ds) n e =
    let p = if-else (eqb c 48) _ n e in
    let q = if-then (leb (length (c ∷ d ∷ ds)) 12) _ n p.1 in
    spelt (c ∷ d ∷ ds) n (omega arith) (leb-true _ 12 q.0) (λ z. absurd (eqb-false c 48 p.0 z)) q.1

natural-at : (ds : List ℕ) → all_ascii_digits ds ≡ true → 0 < length ds → length ds ≤ 12 → (get_or ds 0 0 ≡ 48 → length ds ≡ 1) → natural ds ≡ Some (digits_value 10 ds)
natural-at [] all some few lead = absurd (omega arith)
natural-at (c ∷ []) all some few lead = rw all
natural-at (c ∷ d ∷ ds) all some few lead =
    let not : c ≡ 48 → ⊥ = λ z. omega (arith, lead z) in
    rw (ne_eqb c 48 not, le-leb (length (c ∷ d ∷ ds)) 12 few, all)

pub natural-reads : (n : ℕ) → n < 10 ^ 12 → natural (decimal n) ≡ Some n
natural-reads n h =
    let fits : n < 2 ^ 64 = omega arith in
    natural-at (decimal n) (digits_decimal own n fits) (decimal_nonempty n fits) (length-decimal-le 12 n (omega arith) h fits) (lead n h)
    ∙ ap Some (digits_value-decimal own n fits)
  where
    lead : (n : ℕ) → n < 10 ^ 12 → get_or (decimal n) 0 0 ≡ 48 → length (decimal n) ≡ 1
    lead zero h e = ap length (decimal_digit 0 (omega arith))
    lead (suc n) h e = absurd (omega (arith, first_decimal (suc n) (omega arith) (omega arith)))

-- the first byte of a number that is not below 0 is no minus
no_minus : (n : ℕ) → n < 10 ^ 12 → get_or (decimal n) 0 0 ≡ 45 → ⊥
no_minus zero h e = omega (arith, ap (λ l. get_or l 0 0) (decimal_digit 0 (omega arith)))
no_minus (suc n) h e = omega (arith, first_decimal (suc n) (omega arith) (omega arith))

-- what a number field says: the one number of which it is the writing
pub number-says : (t : List ℕ) (z : ℤ) → number_of t ≡ Some z → Short z × (signed_decimal z ≡ t)
number-says t z e = says (eqb (get_or t 0 0) 45) refl e
  where
    minus : (t : List ℕ) → get_or t 0 0 ≡ 45 → t ≡ 45 ∷ drop 1 t
    minus [] h = absurd (omega arith)
    minus (c ∷ cs) h = ap (λ x. x ∷ cs) h

    lower : (n : ℕ) → get_or t 0 0 ≡ 45 → Spelt (drop 1 t) n → (n ≡ 0 → ⊥) → neg_ℤ (pos n) ≡ z → Short z × (signed_decimal z ≡ t)
    lower zero m s nz is = absurd (nz refl)
    lower (suc n) m s nz is = subst (λ y. Short y × (signed_decimal y ≡ t)) is (s.small, ap (λ l. 45 ∷ l) s.text ∙ sym (minus t m))

    says : (b : Bool) → eqb (get_or t 0 0) 45 ≡ b → cond b (before (natural (drop 1 t)) below_zero) (before (natural t) (λ n. Some (pos n))) ≡ Some z → Short z × (signed_decimal z ≡ t)
    says true m e =
        let p = before-some (natural (drop 1 t)) below_zero z e in
        let q = if-else (eqb p.0 0) (Some (neg_ℤ (pos p.0))) z p.2 in
        lower p.0 (eqb-true _ 45 m) (natural-says (drop 1 t) p.0 p.1) (eqb-false p.0 0 q.0) (some_same q.1)
    says false m e =
        let p = before-some (natural t) (λ n. Some (pos n)) z e in
        let s = natural-says t p.0 p.1 in
        subst (λ y. Short y × (signed_decimal y ≡ t)) (some_same p.2) (s.small, s.text)

pub number-reads : (z : ℤ) → Short z → number_of (signed_decimal z) ≡ Some z
number-reads (pos n) h = rw (ne_eqb (get_or (decimal n) 0 0) 45 (no_minus n h), natural-reads n h)
number-reads (negsuc n) h = rw (natural-reads (suc n) h, ne_eqb (suc n) 0 (λ z. omega arith))

-- a number holds no byte but digits and a minus
pub number-free : (m : ℕ) (z : ℤ) → Short z → m < 45 → Free m (signed_decimal z)
number-free m (pos n) h low = free-from m (decimal n) (not_in_digits own (decimal n) m (digits_decimal own n (omega arith)) (λ d. omega arith))
number-free m (negsuc n) h low = (ne_eqb 45 m (λ e. omega arith), free-from m (decimal (suc n)) (not_in_digits own (decimal (suc n)) m (digits_decimal own (suc n) (omega arith)) (λ d. omega arith)))
