-- What the ranges of figures say, in orders of numbers.
use Rattle.std.proofs.Common.{◌≡◌, Bool, true, ◌&&◌, ℤ, ◌≤ℤ◌, arith}
use lib.Signed.{le_z}
use Rattle.std.proofs.lemmas.Int.{ints}
use Rattle.std.proofs.lemmas.Bool.{and_parts, and_from}
use Rattle.money.specs.declared.range.Range.{Range}
use Rattle.money.specs.Ranges.{within, figure_range, settlement_range}
use Rattle.account.specs.declared.account.Figures.{Figures}
use Rattle.account.specs.Accounts.{in_range, UpToBound, Ranged}

pub le_test : (a b : ℤ) → le_z a b ≡ true → a ≤ℤ b
le_test a b e = grind (arith, ints)

pub test-le : (a b : ℤ) → a ≤ℤ b → le_z a b ≡ true
test-le a b e = grind (arith, ints)

pub within-says : (range : Range) (x : ℤ) → within range x ≡ true → (range.low ≤ℤ x) × (x ≤ℤ range.high)
within-says range x e =
    let p = and_parts (le_z range.low x) (le_z x range.high) e in
    (le_test range.low x p.0, le_test x range.high p.1)

pub within-from : (range : Range) (x : ℤ) → range.low ≤ℤ x → x ≤ℤ range.high → within range x ≡ true
within-from range x l h = and_from _ _ (test-le range.low x l) (test-le x range.high h)

pub figure : (x : ℤ) → within figure_range x ≡ true → UpToBound x
figure x e = let p = within-says figure_range x e in record { low = p.0; high = p.1 }

abbrev fits : ℤ → Bool
fits x = within figure_range x

pub in-range-says : (f : Figures) → in_range f ≡ true → Ranged f
in-range-says f e =
    let five = and_parts (fits f.cash && fits f.limit && fits f.excess && fits f.non_cash && fits f.requirement) (within settlement_range f.settlement) e in
    let four = and_parts (fits f.cash && fits f.limit && fits f.excess && fits f.non_cash) (fits f.requirement) five.0 in
    let three = and_parts (fits f.cash && fits f.limit && fits f.excess) (fits f.non_cash) four.0 in
    let two = and_parts (fits f.cash && fits f.limit) (fits f.excess) three.0 in
    let one = and_parts (fits f.cash) (fits f.limit) two.0 in
    let s = within-says settlement_range f.settlement five.1 in
    record {
      cash = figure _ one.0;
      limit = figure _ one.1;
      excess = figure _ two.1;
      non_cash = figure _ three.1;
      requirement = figure _ four.1;
      lowest = s.0;
      highest = s.1;
    }

figure-from : (x : ℤ) → UpToBound x → within figure_range x ≡ true
figure-from x u = within-from figure_range x u.low u.high

pub in-range-from : (f : Figures) → Ranged f → in_range f ≡ true
in-range-from f r =
    and_from _ _ (and_from _ _ (and_from _ _ (and_from _ _ (and_from _ _ (figure-from _ r.cash) (figure-from _ r.limit)) (figure-from _ r.excess))
    (figure-from _ r.non_cash)) (figure-from _ r.requirement)) (within-from settlement_range _ r.lowest r.highest)
