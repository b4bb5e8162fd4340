-- Rows of keys under an order: `c k l` says how the key k compares with l.
use Rattle.std.specs.Prelude.{◌≡◌, ℕ, suc, ◌<◌, Bool, true, false, cond, ◌&&◌, T, List, [], ◌∷◌, length, Some, None, Ok, Err, Option, Result, slice_index_or}
use Rattle.std.specs.declared.cmp.Ordering.TheVariants.{Less, Equal}
use Rattle.std.specs.declared.cmp.Ordering.{Ordering}
use Rattle.std.specs.List.{insert, AllWithin}
use Rattle.std.specs.Ordering.{is_eq, is_lt}

-- whether a key is below every key of a row
abbrev pub below_all : {K : Type 0} → (K → K → Ordering) → K → List K → Bool
below_all c key [] = true
below_all c key (k ∷ ks) = is_lt (c key k) && below_all c key ks

-- whether each key of a row is below every key after it
abbrev pub ascending : {K : Type 0} → (K → K → Ordering) → List K → Bool
ascending c [] = true
ascending c (k ∷ ks) = below_all c k ks && ascending c ks

-- the order tells any two keys apart
abbrev pub IsExact : {K : Type 0} → (K → K → Ordering) → Type 0
IsExact {K} c = (x y : K) → c x y ≡ Equal → x ≡ y

-- one place further on
abbrev pub further : Option ℕ → Option ℕ
further None = None
further (Some i) = Some (suc i)

-- the first place of a row whose key is equal to a key under the order, if there is one
unfoldable pub place_of : {K : Type 0} → (K → K → Ordering) → List K → K → Option ℕ
place_of c [] key = None
place_of c (k ∷ ks) key = cond (is_eq (c k key)) (Some 0) (further (place_of c ks key))

-- how many keys of a row are below a key
unfoldable pub count_below : {K : Type 0} → (K → K → Ordering) → List K → K → ℕ
count_below c [] key = 0
count_below c (k ∷ ks) key = cond (is_lt (c k key)) (suc (count_below c ks key)) (count_below c ks key)

-- the key stands at a place of a row
abbrev pub Stands : {K : Type 0} → List K → K → ℕ → Type 0
Stands {K} keys key i = (i < length keys) × ((d : K) → slice_index_or keys i d ≡ key)

-- an answer is a place just where the key stands there, and none just where it stands nowhere
pub record IsPlace {K : Type 0} (keys : List K) (key : K) (r : Option ℕ) : Type 0 where
  pub found : (i : ℕ) → Stands keys key i → r ≡ Some i
  pub stands : (i : ℕ) → r ≡ Some i → Stands keys key i
  pub absent : ((i : ℕ) → Stands keys key i → ⊥) → r ≡ None
  pub nowhere : r ≡ None → (i : ℕ) → Stands keys key i → ⊥

-- every key before a place is below the key, no key from it on is, and an absent key put there leaves the row ascending
pub record InsertionPoint {K : Type 0} (c : K → K → Ordering) (keys : List K) (key : K) (i : ℕ) : Type 0 where
  pub before : AllWithin (λ k. c k key ≡ Less) keys 0 i
  pub from : AllWithin (λ k. is_lt (c k key) ≡ false) keys i (length keys)
  pub keeps : place_of c keys key ≡ None → T (ascending c (insert keys i key))

-- the place where a search ended
abbrev pub ended : Result ℕ ℕ → ℕ
ended (Ok i) = i
ended (Err i) = i
