-- What the order of codes says of their bytes.
use Rattle.std.proofs.Common.{◌≡◌, ℕ, Bool, true, false, cond, ◌&&◌, eqb, ltb, List, [], ◌∷◌, length, Ordering, Less, Equal, Greater, refl, ap, ◌∙◌, arith}
use Rattle.std.specs.Cmp.{IsTotalOrder, nat_cmp_total, on_total, then_total, unsigned_tied}
use Rattle.std.specs.Cmp.Lexicographic.{slice_cmp}
use Rattle.std.specs.Ordering.{is_eq, is_lt, ordering_then, nat_cmp}
use Rattle.std.specs.Str.{bytes_eq}
use Rattle.money.specs.declared.code.Code.{Code}
use Rattle.money.specs.Codes.{bytes_of}
use Rattle.money.specs.CodeOrders.{is_below, code_order}

-- one byte, and what the rest says
then_tied : (k r : Ordering) → is_eq (ordering_then k r) ≡ (is_eq k && is_eq r)
then_tied Less r = refl
then_tied Equal r = refl
then_tied Greater r = refl

then_less : (k r : Ordering) → is_lt (ordering_then k r) ≡ cond (is_eq k) (is_lt r) (is_lt k)
then_less Less r = refl
then_less Equal r = refl
then_less Greater r = refl

pub rank_less : (x y : ℕ) → is_lt (nat_cmp x y) ≡ ltb x y
rank_less x y = by (ltb x y) (eqb x y)
  where
    by : (a b : Bool) → is_lt (cond a Less (cond b Equal Greater)) ≡ a
    by true b = refl
    by false true = refl
    by false false = refl

tied-bytes : (xs ys : List ℕ) → is_eq (slice_cmp nat_cmp xs ys) ≡ bytes_eq xs ys
tied-bytes [] [] = refl
tied-bytes [] (y ∷ ys) = refl
tied-bytes (x ∷ xs) [] = refl
tied-bytes (x ∷ xs) (y ∷ ys) = then_tied (nat_cmp x y) (slice_cmp nat_cmp xs ys) ∙ (λ i. unsigned_tied x y i && tied-bytes xs ys i)

less-bytes : (xs ys : List ℕ) → length xs ≡ length ys → is_lt (slice_cmp nat_cmp xs ys) ≡ is_below xs ys
less-bytes [] [] e = refl
less-bytes [] (y ∷ ys) e = absurd (omega arith)
less-bytes (x ∷ xs) [] e = absurd (omega arith)
less-bytes (x ∷ xs) (y ∷ ys) e = then_less (nat_cmp x y) (slice_cmp nat_cmp xs ys) ∙ (λ i. cond (unsigned_tied x y i) (less-bytes xs ys (omega arith) i) (rank_less x y i))

-- the derived order is that of the bytes
cmp-lex : (x y : Code) → code_order x y ≡ slice_cmp nat_cmp (bytes_of x) (bytes_of y)
cmp-lex x y =
    ap (λ r. ordering_then (nat_cmp x.0 y.0) (ordering_then (nat_cmp x.1 y.1) (ordering_then (nat_cmp x.2 y.2) (ordering_then (nat_cmp x.3 y.3) (ordering_then (nat_cmp x.4 y.4) (ordering_then (nat_cmp x.5 y.5) (ordering_then (nat_cmp x.6 y.6) r)))))))
    (last (nat_cmp x.7 y.7))
  where
    last : (k : Ordering) → k ≡ ordering_then k Equal
    last Less = refl
    last Equal = refl
    last Greater = refl

-- the order does not tell two codes apart just where their bytes are the same
pub tied-same : (x y : Code) → is_eq (code_order x y) ≡ bytes_eq (bytes_of x) (bytes_of y)
tied-same x y = ap is_eq (cmp-lex x y) ∙ tied-bytes (bytes_of x) (bytes_of y)

-- and puts one below another just where the first byte that differs does
pub less-below : (x y : Code) → is_lt (code_order x y) ≡ is_below (bytes_of x) (bytes_of y)
less-below x y = ap is_lt (cmp-lex x y) ∙ less-bytes (bytes_of x) (bytes_of y) refl

-- and it is total, as that of each byte is
pub code_total : IsTotalOrder code_order
code_total =
    then_total (on_total (λ (c : Code). c.0) nat_cmp_total) (then_total (on_total (λ (c : Code). c.1) nat_cmp_total) (then_total (on_total (λ (c : Code). c.2) nat_cmp_total) (then_total (on_total (λ (c : Code). c.3) nat_cmp_total)
    (then_total (on_total (λ (c : Code). c.4) nat_cmp_total) (then_total (on_total (λ (c : Code). c.5) nat_cmp_total) (then_total (on_total (λ (c : Code). c.6) nat_cmp_total) (on_total (λ (c : Code). c.7) nat_cmp_total)))))))
