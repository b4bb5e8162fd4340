-- What amounts are worth in points, under a lawful valuation.
use Rattle.std.proofs.Common.{◌≡◌, true, ℤ, pos, ◌+ℤ◌, ◌-ℤ◌, ◌*ℤ◌, ◌≤ℤ◌, ap, arith}
use Rattle.std.proofs.lemmas.Int.{ints, clamps, by_lt_z}
use Rattle.money.specs.declared.currency.Currency.{Currency}
use Rattle.account.specs.Amounts.{surplus_of, deficiency_of}
use Rattle.valuation.specs.Laws.{InRange}
use Rattle.valuation.specs.Valuations.{Valuation, IsLawful}
use Rattle.determination.specs.Valuations.{Market}
use Rattle.determination.proofs.Products.{in-points, worth-no-less, worth-from-zero}

-- a lawful valuation under an admitted base, with every rate above zero
pub record Valued (v : Valuation) (m : Market) (base : Currency) : Type 0 where
  pub laws : IsLawful v
  pub admitted : v.admits base ≡ true
  pub rated : (c : Currency) → pos 1 ≤ℤ m.rate c

pub rate-from-zero : (m : Market) → ((c : Currency) → pos 1 ≤ℤ m.rate c) → (c : Currency) → pos 0 ≤ℤ m.rate c
rate-from-zero m rated c = let r = rated c in omega (arith, ints)

abbrev pub points : Valuation → Market → Currency → Currency → ℤ → ℤ
points v m base c x = v.counts base c x *ℤ m.rate c

module _ {v : Valuation} {m : Market} {base : Currency} (valued : Valued v m base) where
  abbrev from_zero : (c : Currency) → pos 0 ≤ℤ m.rate c
  from_zero = rate-from-zero m valued.rated

  pub surplus-points : (c : Currency) (x : ℤ) → InRange x → pos 0 ≤ℤ x → pos 0 ≤ℤ points v m base c x
  surplus-points c x ranged h = worth-from-zero _ (m.rate c) (from_zero c) (valued.laws.surplus base c x valued.admitted ranged h).0

  pub points-rise : (c : Currency) (x y : ℤ) → InRange x → InRange y → x ≤ℤ y → points v m base c x ≤ℤ points v m base c y
  points-rise c x y low high h = worth-no-less _ _ (m.rate c) (from_zero c) (valued.laws.rising base c x y valued.admitted low high h)

  -- an amount raises the points by all that it is worth if it is paid in the base, and by at least that if it is paid into a deficiency
  pub paying-in-base : (x w : ℤ) → InRange x → InRange (x +ℤ w) → (points v m base base x +ℤ (w *ℤ m.rate base)) ≤ℤ points v m base base (x +ℤ w)
  paying-in-base x w low high =
      let old = valued.laws.in_base base x valued.admitted low in let new = valued.laws.in_base base (x +ℤ w) valued.admitted high in
      let p = in-points (v.counts base base x) w (v.counts base base (x +ℤ w)) (pos 0) (m.rate base) (from_zero base) (omega (arith, ints)) in
      omega (arith, ints)

  pub paying-gains : (c : Currency) (x w : ℤ) → InRange x → pos 0 ≤ℤ w → w ≤ℤ deficiency_of x → (points v m base c x +ℤ (w *ℤ m.rate c)) ≤ℤ points v m base c (x +ℤ w)
  paying-gains c x w ranged h within =
      by_lt_z x (pos 0)
      (λ short.
      let g = valued.laws.paying base c x w valued.admitted ranged h (omega (arith, ints, clamps)) in
      let p = in-points (v.counts base c x) w (v.counts base c (x +ℤ w)) (pos 0) (m.rate c) (from_zero c) (omega (arith, ints)) in
      omega (arith, ints))
      (λ over.
      let none : w ≡ pos 0 = omega (arith, ints, clamps) in
      let worthless = ap (λ z. z *ℤ m.rate c) none in
      let same : points v m base c (x +ℤ w) ≡ points v m base c x = ap (points v m base c) (omega (arith, ints)) in
      omega (arith, ints))

  -- taken from a surplus, it lowers them by at most that
  pub taking-costs : (c : Currency) (x w : ℤ) → InRange x → pos 0 ≤ℤ w → w ≤ℤ surplus_of x → points v m base c x ≤ℤ (points v m base c (x -ℤ w) +ℤ (w *ℤ m.rate c))
  taking-costs c x w ranged h within =
      by_lt_z (pos 0) x
      (λ over.
      let t = valued.laws.taking base c x w valued.admitted ranged h (omega (arith, ints, clamps)) in
      let p = in-points (v.counts base c x) (pos 0) (v.counts base c (x -ℤ w)) w (m.rate c) (from_zero c) (omega (arith, ints)) in
      omega (arith, ints))
      (λ short.
      let none : w ≡ pos 0 = omega (arith, ints, clamps) in
      let worthless = ap (λ z. z *ℤ m.rate c) none in
      let same : points v m base c (x -ℤ w) ≡ points v m base c x = ap (points v m base c) (omega (arith, ints)) in
      omega (arith, ints))
