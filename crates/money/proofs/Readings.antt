-- What is read is what was written, and the other way round.
use Rattle.std.proofs.Common.{◌≡◌, ℕ, ◌≤◌, Bool, true, false, cond, eqb, leb, List, [], ◌∷◌, length, ℤ, pos, negsuc, Some, None, Option, sym, refl, ap, ◌∙◌, arith, eqb-true, leb-true}
use Rattle.std.proofs.lemmas.Slice.Eq.{bytes_eq-Decides}
use Rattle.std.proofs.lemmas.Bool.{and_parts}
use Rattle.money.specs.declared.currency.Currency.{Currency}
use Rattle.money.specs.declared.status.Status.{Status}
use Rattle.money.specs.declared.status.Status.TheVariants.{Open, Shut}
use Rattle.money.specs.Currencies.{currencies, place, letters, is_written, currency_of}
use Rattle.money.specs.Options.{first_of, every}
use Rattle.money.specs.Ranges.{within, rate_range}
use Rattle.money.specs.Statuses.{flag_of, status_of}
use Rattle.money.proofs.EachCurrency.{each, place_same}

-- CURRENCIES

pub first_passes : {X : Type 0} (f : X → Bool) (xs : List X) (x : X) → first_of f xs ≡ Some x → f x ≡ true
first_passes f [] x e = let z : ◌≡◌ {A = ℕ} 0 1 = cc in absurd (omega arith)
first_passes f (y ∷ ys) x e = here (f y) refl (first_passes f ys x) e
  where
    here : (b : Bool) → f y ≡ b → (first_of f ys ≡ Some x → f x ≡ true) → cond b (Some y) (first_of f ys) ≡ Some x → f x ≡ true
    here true t later e = let same : y ≡ x = cc in ap f (sym same) ∙ t
    here false t later e = later e

pub currency-says : (text : List ℕ) (c : Currency) → currency_of text ≡ Some c → letters c ≡ text
unfolding currency_of
currency-says text c e = sym ((bytes_eq-Decides text (letters c)).0 (first_passes (is_written text) currencies c e))

abbrev is_at : ℕ → Option Currency → Bool
is_at n None = false
is_at n (Some c) = eqb (place c) n

pub currency-reads : (c : Currency) → currency_of (letters c) ≡ Some c
unfolding currency_of
currency-reads c = found (currency_of (letters c)) (each (λ c. is_at (place c) (currency_of (letters c))) refl c)
  where
    found : (o : Option Currency) → is_at (place c) o ≡ true → o ≡ Some c
    found None e = let z : ◌≡◌ {A = ℕ} 0 1 = cc in absurd (omega arith)
    found (Some d) e = ap Some (place_same d c (eqb-true (place d) (place c) e))

-- the letters are capitals, and there are three
pub letters-capital : (c : Currency) → every (λ b. leb 65 b) (letters c) ≡ true
letters-capital c = each (λ c. every (λ b. leb 65 b) (letters c)) refl c

pub letters-three : (c : Currency) → length (letters c) ≡ 3
letters-three c = eqb-true (length (letters c)) 3 (each (λ c. eqb (length (letters c)) 3) refl c)

-- STATUSES

pub status-reads : (s : Status) → status_of (flag_of s) ≡ Some s
status-reads Open = refl
status-reads Shut = refl

pub status-says : (flag : ℤ) (s : Status) → status_of flag ≡ Some s → flag_of s ≡ flag
status-says (pos n) s e = by (eqb n 0) refl (eqb n 1) refl e
  where
    by : (a : Bool) → eqb n 0 ≡ a → (b : Bool) → eqb n 1 ≡ b → cond a (Some Open) (cond b (Some Shut) None) ≡ Some s → flag_of s ≡ pos n
    by true is b _ e = let same : Open ≡ s = cc in ap flag_of (sym same) ∙ ap pos (sym (eqb-true n 0 is))
    by false _ true is e = let same : Shut ≡ s = cc in ap flag_of (sym same) ∙ ap pos (sym (eqb-true n 1 is))
    by false _ false _ e = let z : ◌≡◌ {A = ℕ} 0 1 = cc in absurd (omega arith)
status-says (negsuc n) s e = let z : ◌≡◌ {A = ℕ} 0 1 = cc in absurd (omega arith)

-- RATES

pub rate-natural : (x : ℤ) → within rate_range x ≡ true → (n : ℕ) × (x ≡ pos n) × (n ≤ 999999)
rate-natural (pos n) e = (n, refl, leb-true n 999999 (and_parts (leb 1000 n) (leb n 999999) e).1)
rate-natural (negsuc n) e = let z : ◌≡◌ {A = ℕ} 0 1 = cc in absurd (omega arith)
