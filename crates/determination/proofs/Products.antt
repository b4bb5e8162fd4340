-- Amounts turned into points.
use Rattle.std.proofs.Common.{◌≡◌, ◌+◌, ◌-◌, ◌*◌, ◌<◌, ◌≤◌, ℤ, pos, negsuc, ◌+ℤ◌, ◌-ℤ◌, ◌*ℤ◌, ◌≤ℤ◌, sym, ap, ◌∙◌, subst, mul-le-mul_right, add-mul, div-mul-le_self, arith}
use native.Mathlib.Nat.{div-eq_of_lt, lt-div-mul-add, zero-div}
use borrow.Author.Differences.{up, down}
use lib.Signed.{quot_z}
use Rattle.std.proofs.lemmas.Int.{ints}
use Rattle.determination.specs.Roundings.{rounded_up, rounded_down}

-- an order of amounts is one of points
pub in-points : (a w b z q : ℤ) → pos 0 ≤ℤ q → (a +ℤ w) ≤ℤ (b +ℤ z) → ((a *ℤ q) +ℤ (w *ℤ q)) ≤ℤ ((b *ℤ q) +ℤ (z *ℤ q))
in-points a w b z (pos q) from_zero h =
    let n : (up a + up w) + (down b + down z) ≤ (up b + up z) + (down a + down w) = omega (arith, ints) in
    let m : ((up a + up w) + (down b + down z)) * q ≤ ((up b + up z) + (down a + down w)) * q = mul-le-mul_right q n in
    omega (arith, ints, simp add-mul at m)
in-points a w b z (negsuc q) from_zero h = absurd (omega (arith, ints))

-- what is no less is worth no less
pub worth-no-less : (a b q : ℤ) → pos 0 ≤ℤ q → a ≤ℤ b → (a *ℤ q) ≤ℤ (b *ℤ q)
worth-no-less a b q from_zero h = let p = in-points a (pos 0) b (pos 0) q from_zero (omega (arith, ints)) in omega (arith, ints)

pub worth-from-zero : (a q : ℤ) → pos 0 ≤ℤ q → pos 0 ≤ℤ a → pos 0 ≤ℤ (a *ℤ q)
worth-from-zero a q from_zero h = let p = worth-no-less (pos 0) a q from_zero h in omega (arith, ints)

-- ROUNDINGS

-- rounded up, an amount is worth at least the points, and nothing where there are none
pub record RoundsUp (r q w : ℤ) : Type 0 where
  pub from_zero : pos 0 ≤ℤ w
  pub enough : r ≤ℤ (w *ℤ q)
  pub none : r ≡ pos 0 → w ≡ pos 0

pub rounded-up : (r q : ℤ) → pos 0 ≤ℤ r → pos 1 ≤ℤ q → RoundsUp r q (rounded_up r q)
rounded-up (pos n) (pos d) h k =
    let positive : 0 < d = omega (arith, ints) in
    let less : pos d -ℤ pos 1 ≡ pos (d - 1) = omega (arith, ints) in
    subst (λ z. RoundsUp (pos n) (pos d) (quot_z (pos n +ℤ z) (pos d))) (sym less) (record {
      from_zero = omega (arith, ints);
      enough = omega (arith, ints, lt-div-mul-add {a = n + (d - 1)} positive);
      none = λ e. ap pos (div-eq_of_lt (omega (arith, ints)));
    })
rounded-up (pos n) (negsuc d) h k = absurd (omega (arith, ints))
rounded-up (negsuc n) q h k = absurd (omega (arith, ints))

-- rounded down, it is worth at most the points
pub record RoundsDown (r q w : ℤ) : Type 0 where
  pub from_zero : pos 0 ≤ℤ w
  pub within : (w *ℤ q) ≤ℤ r
  pub none : r ≡ pos 0 → w ≡ pos 0

pub rounded-down : (r q : ℤ) → pos 0 ≤ℤ r → pos 0 ≤ℤ q → RoundsDown r q (rounded_down r q)
rounded-down (pos n) (pos d) h k = record {
  from_zero = omega (arith, ints);
  within = omega (arith, ints, div-mul-le_self n d);
  none = λ e. ap (λ z. quot_z z (pos d)) e ∙ ap pos (zero-div d);
}
rounded-down (pos n) (negsuc d) h k = absurd (omega (arith, ints))
rounded-down (negsuc n) q h k = absurd (omega (arith, ints))
