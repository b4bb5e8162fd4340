-- Lists all of whose members pass a test.
use Rattle.std.proofs.Common.{◌≡◌, ℕ, Bool, true, false, cond, not, ◌&&◌, List, [], ◌∷◌, map, Some, None, refl, arith}
use Rattle.std.proofs.lemmas.Bool.{and_parts, and_from}
use Rattle.money.specs.Options.{every, first_of}
use Rattle.history.specs.Bookings.{change_first}

-- of each that passes one test, what is made of it passes another
pub every_map : {X Y : Type 0} (f : X → Bool) (g : X → Y) (h : Y → Bool) (xs : List X) → every f xs ≡ true → ((x : X) → f x ≡ true → h (g x) ≡ true) → every h (map g xs) ≡ true
every_map f g h [] all each = refl
every_map f g h (x ∷ xs) all each = let p = and_parts (f x) (every f xs) all in and_from _ _ (each x p.0) (every_map f g h xs p.1 each)

-- a change of the first that passes a test, which is the one that is found
pub every-changed : {X : Type 0} (f test : X → Bool) (change : X → X) (xs : List X) → every f xs ≡ true → ((x : X) → first_of test xs ≡ Some x → f x ≡ true → f (change x) ≡ true) → every f (change_first test change xs) ≡ true
every-changed f test change [] all kept = refl
every-changed {X = X} f test change (y ∷ ys) all kept = by (test y) refl (and_parts (f y) (every f ys) all) kept (every-changed f test change ys)
  where
    by : (b : Bool) → test y ≡ b → (f y ≡ true) × (every f ys ≡ true) → ((x : X) → cond b (Some y) (first_of test ys) ≡ Some x → f x ≡ true → f (change x) ≡ true) → (every f ys ≡ true → ((x : X) → first_of test ys ≡ Some x → f x ≡ true → f (change x) ≡ true) → every f (change_first test change ys) ≡ true) → every f (cond b (change y ∷ ys) (y ∷ change_first test change ys)) ≡ true
    by true is p kept later = and_from _ _ (kept y refl p.0) p.1
    by false is p kept later = and_from _ _ p.0 (later p.1 kept)

pub every-and : {X : Type 0} (f g : X → Bool) (xs : List X) → every f xs ≡ true → every g xs ≡ true → every (λ x. f x && g x) xs ≡ true
every-and f g [] a b = refl
every-and f g (x ∷ xs) a b =
    let p = and_parts (f x) (every f xs) a in
    let q = and_parts (g x) (every g xs) b in
    and_from _ _ (and_from _ _ p.0 q.0) (every-and f g xs p.1 q.1)

pub every_of : {X Y : Type 0} (f : Y → Bool) (g : X → Y) (xs : List X) → ((x : X) → f (g x) ≡ true) → every f (map g xs) ≡ true
every_of f g [] each = refl
every_of f g (x ∷ xs) each = and_from _ _ (each x) (every_of f g xs each)

-- where none is found, none passes
pub none_passes : {X : Type 0} (f : X → Bool) (xs : List X) → first_of f xs ≡ None → every (λ x. not (f x)) xs ≡ true
none_passes f [] e = refl
none_passes f (x ∷ xs) e = by (f x) e (none_passes f xs)
  where
    by : (b : Bool) → cond b (Some x) (first_of f xs) ≡ None → (first_of f xs ≡ None → every (λ x. not (f x)) xs ≡ true) → (not b && every (λ x. not (f x)) xs) ≡ true
    by true e later = let z : ◌≡◌ {A = ℕ} 0 1 = cc in absurd (omega arith)
    by false e later = later e
