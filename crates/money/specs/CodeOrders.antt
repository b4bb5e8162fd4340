-- The order of codes: byte by byte.
use Rattle.std.specs.Prelude.{ℕ, Bool, false, cond, List, [], ◌∷◌, ◌==◌, nat_lt}
use Rattle.std.specs.declared.cmp.Ordering.{Ordering}
use Rattle.std.specs.Ordering.{nat_cmp, ordering_then}
use Rattle.money.specs.declared.code.Code.{Code}

-- the first byte that differs decides
abbrev pub is_below : List ℕ → List ℕ → Bool
is_below [] ys = false
is_below (x ∷ xs) [] = false
is_below (x ∷ xs) (y ∷ ys) = cond (x == y) (is_below xs ys) (nat_lt x y)

-- how two codes compare: each byte decides, or leaves it to the next
abbrev pub code_order : Code → Code → Ordering
code_order x y =
    ordering_then (nat_cmp x.0 y.0) (ordering_then (nat_cmp x.1 y.1) (ordering_then (nat_cmp x.2 y.2) (ordering_then (nat_cmp x.3 y.3)
    (ordering_then (nat_cmp x.4 y.4) (ordering_then (nat_cmp x.5 y.5) (ordering_then (nat_cmp x.6 y.6) (nat_cmp x.7 y.7)))))))
