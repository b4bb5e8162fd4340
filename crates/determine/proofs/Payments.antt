-- What points are turned into is worth no more than they are, but for less than one rate.
use Rattle.std.proofs.Common.{◌≡◌, ◌+◌, ◌-◌, ◌*◌, ◌≤◌, ℤ, pos, negsuc, ◌+ℤ◌, ◌-ℤ◌, ◌*ℤ◌, ◌≤ℤ◌, sym, subst, mul-le-mul_left, div-mul-le_self, arith}
use lib.Signed.{quot_z}
use Rattle.std.specs.Int.{int_min}
use Rattle.std.proofs.lemmas.Int.{ints, clamps}
use Rattle.std.proofs.lemmas.Bool.{cond_both}
use Rattle.money.specs.declared.currency.Currency.{Currency}
use Rattle.account.specs.Amounts.{surplus_of, deficiency_of}
use Rattle.determination.specs.Calls.{call_at, repayment_at}
use Rattle.determination.specs.Roundings.{rounded_up, rounded_down}
use Rattle.determination.specs.Valuations.{Market}
use Rattle.determination.proofs.Products.{worth-no-less, worth-from-zero, rounded-up, rounded-down}
use Rattle.determine.specs.Payments.{Turned}
use Rattle.determine.specs.Points.{Rest}
use Rattle.determine.specs.Rates.{IsRate}
use Rattle.determine.specs.Sizes.{Few}

-- rounded up, an amount is worth less than one rate more than the points
up-within : (r q : ℤ) → pos 0 ≤ℤ r → IsRate q → (rounded_up r q *ℤ q) ≤ℤ (r +ℤ pos 999999)
up-within (pos n) (pos d) h k =
    let less : pos d -ℤ pos 1 ≡ pos (d - 1) = omega (arith, ints) in
    subst (λ z. (quot_z (pos n +ℤ z) (pos d) *ℤ pos d) ≤ℤ (pos n +ℤ pos 999999)) (sym less) (let m = div-mul-le_self (n + (d - 1)) d in omega (arith, ints))
up-within (pos n) (negsuc d) h k = absurd (omega (arith, ints))
up-within (negsuc n) q h k = absurd (omega (arith, ints))

-- what is worth few points is few
few : (w q : ℤ) (r : ℤ) → Rest r → IsRate q → pos 0 ≤ℤ w → (w *ℤ q) ≤ℤ (r +ℤ pos 999999) → w ≤ℤ pos 8000000000001000
few (pos n) (pos d) r rest rated low within = let m : n * 1000 ≤ n * d = mul-le-mul_left n (omega (arith, ints)) in omega (arith, ints)
few (pos n) (negsuc d) r rest rated low within = absurd (omega (arith, ints))
few (negsuc n) q r rest rated low within = absurd (omega (arith, ints))

-- an amount from 0 to the points rounded up
turned : (w r q : ℤ) → Rest r → IsRate q → pos 0 ≤ℤ w → w ≤ℤ rounded_up r q → Turned r q w
turned w r q rest rated low high =
    let from : pos 0 ≤ℤ q = omega (arith, ints) in
    let worth = worth-no-less w (rounded_up r q) q from high in
    let up = up-within r q rest.low rated in
    let within : (w *ℤ q) ≤ℤ (r +ℤ pos 999999) = omega (arith, ints) in
    record { low = low; high = few w q r rest rated low within; from_zero = worth-from-zero w q from low; within = within }

-- an amount from 0 to the points rounded down
turned_down : (w r q : ℤ) → Rest r → IsRate q → pos 0 ≤ℤ w → w ≤ℤ rounded_down r q → Turned r q w
turned_down w r q rest rated low high =
    let from : pos 0 ≤ℤ q = omega (arith, ints) in
    let worth = worth-no-less w (rounded_down r q) q from high in
    let down = (rounded-down r q rest.low from).within in
    let within : (w *ℤ q) ≤ℤ (r +ℤ pos 999999) = omega (arith, ints) in
    record { low = low; high = few w q r rest rated low within; from_zero = worth-from-zero w q from low; within = within }

pub up-few : (r q : ℤ) → Rest r → IsRate q → Few (rounded_up r q)
up-few r q rest rated =
    let up = (rounded-up r q rest.low (omega (arith, ints))).from_zero in
    let t = turned (rounded_up r q) r q rest rated up (omega (arith, ints)) in
    record { low = up; high = t.high }

module _ (m : Market) (x : Currency → ℤ) (r : ℤ) (c : Currency) (rated : IsRate (m.rate c)) (rest : Rest r) where
  pub call-turned : Turned r (m.rate c) (call_at m x r c)
  call-turned =
      let up = (rounded-up r (m.rate c) rest.low (omega (arith, ints))).from_zero in
      cond_both (m.is_open c) (int_min (deficiency_of (x c)) (rounded_up r (m.rate c))) (pos 0) (Turned r (m.rate c))
      (λ _. turned _ r (m.rate c) rest rated (omega (arith, ints, clamps)) (omega (arith, ints, clamps)))
      (λ _. turned (pos 0) r (m.rate c) rest rated (omega (arith, ints)) up)

  pub repayment-turned : (rooms : Currency → ℤ) → Turned r (m.rate c) (repayment_at m x rooms r c)
  repayment-turned rooms =
      let down = (rounded-down r (m.rate c) rest.low (omega (arith, ints))).from_zero in
      cond_both (m.is_open c) (surplus_of (int_min (int_min (x c) (rooms c)) (rounded_down r (m.rate c)))) (pos 0) (Turned r (m.rate c))
      (λ _. turned_down _ r (m.rate c) rest rated (omega (arith, ints, clamps)) (omega (arith, ints, clamps)))
      (λ _. turned_down (pos 0) r (m.rate c) rest rated (omega (arith, ints)) down)
