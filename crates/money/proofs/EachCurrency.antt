-- What a computed test over book order says of each currency.
use Rattle.std.proofs.Common.{◌≡◌, ℕ, ◌<◌, Bool, true, false, ltb, List, map, length, get_or, Some, refl, ap, ◌∙◌, subst, ltb-true, eq-eqb, ne_eqb, eqb-true}
use lib.Utf8.{encode}
use Rattle.std.proofs.lemmas.Slice.Eq.{bytes_eq-Decides}
use Rattle.std.proofs.lemmas.List.Elements.{All-get_or}
use Rattle.std.proofs.lemmas.List.Sums.{AllPass-from_list_all}
use Rattle.std.proofs.lemmas.Option.{get_or_from_slice_get, slice_get_within, slice_get-map}
use Rattle.std.specs.Option.{option_map}
use Rattle.std.specs.List.{slice_get}
use Rattle.std.specs.Str.{bytes_eq}
use Rattle.money.specs.declared.currency.Currency.{Currency}
use Rattle.money.specs.declared.currency.Currency.TheVariants.{Gbp, Dkk, Eur, Nok, Sek, Usd}
use Rattle.money.specs.Options.{every}
use Rattle.money.specs.Currencies.{currencies, place, is_same, letters, spelt}

pub every-at : {X : Type 0} (f : X → Bool) (xs : List X) (i : ℕ) (x : X) → every f xs ≡ true → slice_get xs i ≡ Some x → f x ≡ true
every-at f xs i x all is =
    subst (λ z. f z ≡ true) (get_or_from_slice_get xs i x x is)
    (All-get_or (λ z. f z ≡ true) xs i x (slice_get_within xs i x is) (AllPass-from_list_all f xs all))

-- each currency stands at its place
pub placed : (c : Currency) → slice_get currencies (place c) ≡ Some c
placed Gbp = refl
placed Dkk = refl
placed Eur = refl
placed Nok = refl
placed Sek = refl
placed Usd = refl

pub place_same : (c d : Currency) → place c ≡ place d → c ≡ d
place_same c d e = let p = placed c in let q = placed d in cc

-- the test for the same currency
pub same-currency : (c d : Currency) → is_same c d ≡ true → c ≡ d
same-currency c d e = place_same c d (eqb-true (place c) (place d) e)

pub same-itself : (c : Currency) → is_same c c ≡ true
same-itself c = eq-eqb (place c) (place c) refl

pub different : (c d : Currency) → (c ≡ d → ⊥) → is_same c d ≡ false
different c d apart = ne_eqb (place c) (place d) (λ e. apart (place_same c d e))

-- of what is listed for each currency in book order, what stands at the place of one
pub at_place : {X : Type 0} (f : Currency → X) (d : X) (c : Currency) → get_or (map f currencies) (place c) d ≡ f c
at_place f d c = get_or_from_slice_get (map f currencies) (place c) (f c) d (slice_get-map f currencies (place c) ∙ ap (option_map f) (placed c))

-- what a test finds of all of them holds of each
pub each : (f : Currency → Bool) → every f currencies ≡ true → (c : Currency) → f c ≡ true
each f all c = every-at f currencies (place c) c all (placed c)

pub place-within : (c : Currency) → place c < length currencies
place-within c = ltb-true (place c) (length currencies) (each (λ c. ltb (place c) (length currencies)) refl c)

-- the letters are plain characters
pub letters-spelt : (c : Currency) → spelt (letters c) ≡ letters c
unfolding encode
letters-spelt c = (bytes_eq-Decides (spelt (letters c)) (letters c)).0 (each (λ c. bytes_eq (spelt (letters c)) (letters c)) refl c)
