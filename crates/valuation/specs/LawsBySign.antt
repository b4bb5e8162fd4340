-- What the laws ask of the count in one currency, and how it comes from surpluses and deficiencies by their absolute amounts.
use Rattle.std.specs.Prelude.{◌≡◌, ℕ, zero, suc, ◌+◌, ◌-◌, ◌*◌, ◌≤◌, ℤ, pos, negsuc, ◌+ℤ◌, ◌-ℤ◌, ◌*ℤ◌, neg_ℤ, ◌≤ℤ◌, refl}
use Rattle.std.proofs.Common.{arith}
use Rattle.std.proofs.lemmas.Int.{ints}
use Rattle.valuation.specs.Counts.{by_sign}

-- a count in one currency that keeps the laws at every amount
pub record Fair (count : ℤ → ℤ) : Type 0 where
  pub zero : count (pos 0) ≡ pos 0
  pub rising : (x y : ℤ) → x ≤ℤ y → count x ≤ℤ count y
  pub surplus : (x : ℤ) → pos 0 ≤ℤ x → (pos 0 ≤ℤ count x) × (count x ≤ℤ x)
  pub deficiency : (x : ℤ) → x ≤ℤ pos 0 → ((pos 2 *ℤ x) ≤ℤ count x) × (count x ≤ℤ x)
  pub taking : (x w : ℤ) → pos 0 ≤ℤ w → w ≤ℤ x → (count x -ℤ w) ≤ℤ count (x -ℤ w)
  pub paying : (x w : ℤ) → pos 0 ≤ℤ w → w ≤ℤ neg_ℤ x → (count x +ℤ w) ≤ℤ count (x +ℤ w)

-- every amount counts as itself
pub itself-fair : Fair (λ x. x)
itself-fair = record {
  zero = refl;
  rising = λ x y h. h;
  surplus = λ x h. (h, omega (arith, ints));
  deficiency = λ x h. (omega (arith, ints), omega (arith, ints));
  taking = λ x w h k. omega (arith, ints);
  paying = λ x w h k. omega (arith, ints);
}

-- what a surplus and a deficiency count, each by its absolute amount
pub record FairSides (surplus deficiency : ℕ → ℕ) : Type 0 where
  -- a surplus counts at most itself
  pub surplus-within : (n : ℕ) → surplus n ≤ n
  -- of two surpluses the larger counts no less, and more by at most their difference
  pub surplus-rises : (m n : ℕ) → m ≤ n → surplus m ≤ surplus n
  pub surplus-slow : (m n : ℕ) → m ≤ n → surplus n + m ≤ surplus m + n
  -- a deficiency counts at most double
  pub deficiency-within : (n : ℕ) → deficiency n ≤ 2 * n
  -- of two deficiencies the larger counts more by at least their difference
  pub deficiency-steep : (m n : ℕ) → m ≤ n → deficiency m + n ≤ deficiency n + m

module _ (surplus deficiency : ℕ → ℕ) (sides : FairSides surplus deficiency) where
  abbrev count : ℤ → ℤ
  count = by_sign surplus deficiency

  -- a deficiency of nothing counts nothing
  deficiency-at : (n : ℕ) → count (neg_ℤ (pos n)) ≡ neg_ℤ (pos (deficiency n))
  deficiency-at zero = let d = sides.deficiency-within 0 in let s = sides.surplus-within 0 in omega (arith, ints)
  deficiency-at (suc n) = refl

  rising : (x y : ℤ) → x ≤ℤ y → count x ≤ℤ count y
  rising (pos m) (pos n) h = let k : m ≤ n = omega (arith, ints) in let r = sides.surplus-rises m n k in omega (arith, ints)
  rising (pos m) (negsuc n) h = omega (arith, ints)
  rising (negsuc m) (pos n) h = omega (arith, ints)
  rising (negsuc m) (negsuc n) h =
      let k : suc n ≤ suc m = omega (arith, ints) in let r = sides.deficiency-steep (suc n) (suc m) k in omega (arith, ints)

  surplus-side : (x : ℤ) → pos 0 ≤ℤ x → (pos 0 ≤ℤ count x) × (count x ≤ℤ x)
  surplus-side (pos n) h = let s = sides.surplus-within n in (omega (arith, ints), omega (arith, ints))
  surplus-side (negsuc n) h = (omega (arith, ints), omega (arith, ints))

  deficiency-side : (x : ℤ) → x ≤ℤ pos 0 → ((pos 2 *ℤ x) ≤ℤ count x) × (count x ≤ℤ x)
  deficiency-side (pos n) h = let s = sides.surplus-within n in (omega (arith, ints), omega (arith, ints))
  deficiency-side (negsuc n) h =
      let k : 0 ≤ suc n = omega arith in
      let r = sides.deficiency-steep 0 (suc n) k in
      let d = sides.deficiency-within (suc n) in
      (omega (arith, ints), omega (arith, ints))

  taking : (x w : ℤ) → pos 0 ≤ℤ w → w ≤ℤ x → (count x -ℤ w) ≤ℤ count (x -ℤ w)
  taking (pos n) (pos w) h k =
      let e : pos n -ℤ pos w ≡ pos (n - w) = omega (arith, ints) in
      let l : n - w ≤ n = omega arith in
      let r = sides.surplus-slow (n - w) n l in
      rw e (omega (arith, ints))
  taking (pos n) (negsuc w) h k = omega (arith, ints)
  taking (negsuc n) (pos w) h k = omega (arith, ints)
  taking (negsuc n) (negsuc w) h k = omega (arith, ints)

  paying : (x w : ℤ) → pos 0 ≤ℤ w → w ≤ℤ neg_ℤ x → (count x +ℤ w) ≤ℤ count (x +ℤ w)
  paying (pos n) (pos w) h k =
      let l : n ≤ n + w = omega arith in let r = sides.surplus-rises n (n + w) l in omega (arith, ints)
  paying (negsuc n) (pos w) h k =
      let e : negsuc n +ℤ pos w ≡ neg_ℤ (pos (suc n - w)) = omega (arith, ints) in
      let l : suc n - w ≤ suc n = omega arith in
      let r = sides.deficiency-steep (suc n - w) (suc n) l in
      rw (e, deficiency-at (suc n - w)) (omega (arith, ints))
  paying (pos n) (negsuc w) h k = omega (arith, ints)
  paying (negsuc n) (negsuc w) h k = omega (arith, ints)

  pub sides-fair : Fair (by_sign surplus deficiency)
  sides-fair = record {
    zero = let s = sides.surplus-within 0 in omega (arith, ints);
    rising = rising;
    surplus = surplus-side;
    deficiency = deficiency-side;
    taking = taking;
    paying = paying;
  }
