-- How large values and their sums are.
use Rattle.std.proofs.Common.{◌≡◌, ℕ, ◌+◌, ◌*◌, ◌<◌, ◌≤◌, List, [], ◌∷◌, ◌++◌, length, get_or, take, ℤ, pos, negsuc, ◌+ℤ◌, ◌*ℤ◌, nat_abs, ap, ◌∙◌, mul-le-mul, arith}
use Rattle.std.proofs.lemmas.List.{take_more}
use Rattle.std.proofs.lemmas.Int.{ints}
use Rattle.money.specs.declared.currency.Currency.{Currency}
use Rattle.valuation.specs.Laws.{InRange}
use Rattle.valuation.proofs.LawfulCounts.{count_small}
use Rattle.valuation.specs.Valuations.{Valuation, IsLawful}
use Rattle.determination.specs.Valuations.{sum}
use Rattle.determine.specs.Points.{OnePoints}
use Rattle.determine.specs.Rates.{IsRate}

product-size : (x q : ℤ) (m n : ℕ) → nat_abs x ≤ m → nat_abs q ≤ n → nat_abs (x *ℤ q) ≤ m * n
product-size (pos a) (pos b) m n h k = let r = mul-le-mul h k in omega (arith, ints)
product-size (pos a) (negsuc b) m n h k = let r = mul-le-mul h k in omega (arith, ints)
product-size (negsuc a) (pos b) m n h k = let r = mul-le-mul h k in omega (arith, ints)
product-size (negsuc a) (negsuc b) m n h k = let r = mul-le-mul h k in omega (arith, ints)

-- what an amount in range is worth
pub value-small : (v : Valuation) → IsLawful v → (base c : Currency) (x rate : ℤ) → InRange x → IsRate rate → OnePoints (v.counts base c x *ℤ rate)
value-small v laws base c x rate ranged rated =
    let small = count_small v.counts v.admits laws base c x in
    let s = product-size (v.counts base c x) rate 800000000000 999999 (omega arith) (omega (arith, ints)) in
    omega arith

sum-push : (f : Currency → ℤ) (cs : List Currency) (d : Currency) → sum f (cs ++ d ∷ []) ≡ sum f cs +ℤ f d
sum-push f [] d = omega (arith, ints)
sum-push f (c ∷ cs) d = let later = sum-push f cs d in omega (arith, ints)

-- one currency more
pub sum_more : (f : Currency → ℤ) (cs : List Currency) (i : ℕ) (d : Currency) → i < length cs → sum f (take (i + 1) cs) ≡ sum f (take i cs) +ℤ f (get_or cs i d)
sum_more f cs i d h = ap (sum f) (take_more cs i d h) ∙ sum-push f (take i cs) (get_or cs i d)
