-- What holds of repayments.
use Rattle.std.proofs.Common.{◌≡◌, Bool, false, cond, List, ℤ, pos, ◌+ℤ◌, ◌-ℤ◌, ◌*ℤ◌, neg_ℤ, ◌≤ℤ◌, refl, arith}
use Rattle.std.specs.Int.{int_min}
use Rattle.std.proofs.lemmas.Int.{ints, clamps}
use Rattle.std.proofs.lemmas.Bool.{cond-false, cond_both}
use Rattle.money.specs.declared.currency.Currency.{Currency}
use Rattle.money.specs.Currencies.{currencies}
use Rattle.account.specs.Amounts.{surplus_of}
use Rattle.valuation.specs.Laws.{InRange}
use Rattle.determination.specs.Calls.{repayment_at, repayment_by}
use Rattle.determination.specs.Roundings.{rounded_down}
use Rattle.valuation.specs.Valuations.{Valuation}
use Rattle.determination.specs.Valuations.{Market, sum, worth}
use Rattle.determination.specs.Walks.{rest_after, rest_at}
use Rattle.determination.proofs.Namings.{EachOnce}
use Rattle.determination.proofs.Points.{Valued, points, rate-from-zero, taking-costs}
use Rattle.determination.proofs.Products.{worth-no-less, worth-from-zero, rounded-down}
use Rattle.determination.proofs.Sums.{sum-none}
use Rattle.determination.proofs.WalkLaws.{rest-at, rest-at-end, walk-compares}

-- what holds of the repayments of r points, where the balances are x and what may leave is rooms
pub record RepaymentsHold (v : Valuation) (m : Market) (base : Currency) (x rooms : Currency → ℤ) (r : ℤ) (repaid : Currency → ℤ) : Type 0 where
  pub from_zero : (c : Currency) → pos 0 ≤ℤ repaid c
  pub none : r ≡ pos 0 → (c : Currency) → repaid c ≡ pos 0
  pub none-shut : (c : Currency) → m.is_open c ≡ false → repaid c ≡ pos 0
  pub within-room : (c : Currency) → repaid c ≤ℤ surplus_of (rooms c)
  pub within : sum (λ d. repaid d *ℤ m.rate d) currencies ≤ℤ r
  pub stand : (paid : Currency → Bool) → r ≤ℤ worth v m base x currencies → pos 0 ≤ℤ worth v m base (λ c. x c -ℤ cond (paid c) (repaid c) (pos 0)) currencies

module _ {v : Valuation} {m : Market} {base : Currency} (valued : Valued v m base) (x rooms : Currency → ℤ) (ranged : (c : Currency) → InRange (x c)) where
  abbrev positive : (c : Currency) → pos 0 ≤ℤ m.rate c
  positive = rate-from-zero m valued.rated

  -- ONE REPAYMENT

  -- it is within the surplus, what may leave, and the points
  record Repaid (r : ℤ) (c : Currency) (w : ℤ) : Type 0 where
    from_zero : pos 0 ≤ℤ w
    none : r ≡ pos 0 → w ≡ pos 0
    within-balance : w ≤ℤ surplus_of (x c)
    within-room : w ≤ℤ surplus_of (rooms c)
    within-rest : (w *ℤ m.rate c) ≤ℤ r

  repaid-at : (r : ℤ) (c : Currency) → pos 0 ≤ℤ r → Repaid r c (repayment_at m x rooms r c)
  repaid-at r c h =
      let down = rounded_down r (m.rate c) in
      let w = surplus_of (int_min (int_min (x c) (rooms c)) down) in
      let d = rounded-down r (m.rate c) h (positive c) in
      cond_both (m.is_open c) w (pos 0) (Repaid r c)
      (λ _. record {
        from_zero = omega (arith, ints, clamps);
        none = λ e. let n = d.none e in omega (arith, ints, clamps);
        within-balance = omega (arith, ints, clamps);
        within-room = omega (arith, ints, clamps);
        within-rest = let p = worth-no-less w down (m.rate c) (positive c) (omega (arith, ints, clamps)) in omega (arith, ints);
      })
      (λ _. record {
        from_zero = omega (arith, ints);
        none = λ _. refl;
        within-balance = omega (arith, ints, clamps);
        within-room = omega (arith, ints, clamps);
        within-rest = omega (arith, ints);
      })

  repaid-worth : (r : ℤ) (c : Currency) → pos 0 ≤ℤ r → pos 0 ≤ℤ (repayment_at m x rooms r c *ℤ m.rate c)
  repaid-worth r c h = worth-from-zero (repayment_at m x rooms r c) (m.rate c) (positive c) (repaid-at r c h).from_zero

  -- BY PRIORITY

  module _ (priority : List Currency) (once : EachOnce priority) (r : ℤ) (over : pos 0 ≤ℤ r) where
    abbrev rest : Currency → ℤ
    rest = rest_at (repayment_at m x rooms) m.rate priority r

    rests : (c : Currency) → (pos 0 ≤ℤ rest c) × (rest c ≤ℤ r)
    rests c = rest-at (repayment_at m x rooms) m.rate repaid-worth priority r c over

    repaid-in : (c : Currency) → Repaid (rest c) c (repayment_by m x rooms priority r c)
    repaid-in c = repaid-at (rest c) c (rests c).0

    -- what is repaid is worth what it uses up
    repaid-within : sum (λ d. repayment_by m x rooms priority r d *ℤ m.rate d) currencies ≤ℤ r
    repaid-within =
        let end = rest-at-end (repayment_at m x rooms) m.rate repaid-worth priority r over in
        let none = sum-none currencies in
        let w = walk-compares (repayment_at m x rooms) m.rate repaid-worth (λ r c. repayment_at m x rooms r c *ℤ m.rate c) (λ r c. pos 0) neg_ℤ
        (λ r c h. let k = (repaid-at r c h).within-rest in omega (arith, ints, clamps)) priority once r over in
        omega (arith, ints)

    -- and lowers the points by at most that, wherever it is paid
    repaid-stands : (paid : Currency → Bool) → r ≤ℤ worth v m base x currencies →
        pos 0 ≤ℤ worth v m base (λ c. x c -ℤ cond (paid c) (repayment_by m x rooms priority r c) (pos 0)) currencies
    repaid-stands paid total =
        let end = rest-at-end (repayment_at m x rooms) m.rate repaid-worth priority r over in
        let costs = walk-compares (repayment_at m x rooms) m.rate repaid-worth
        (λ r c. points v m base c (x c)) (λ r c. points v m base c (x c -ℤ cond (paid c) (repayment_at m x rooms r c) (pos 0))) neg_ℤ
        (λ r c h.
        let w = repayment_at m x rooms r c in
        let k = repaid-at r c h in
        let p = repaid-worth r c h in
        cond_both (paid c) w (pos 0) (λ z. (points v m base c (x c) +ℤ neg_ℤ r) ≤ℤ (points v m base c (x c -ℤ z) +ℤ neg_ℤ (rest_after (repayment_at m x rooms) m.rate r c)))
        (λ _. let t = taking-costs valued c (x c) w (ranged c) k.from_zero k.within-balance in omega (arith, ints, clamps))
        (λ _. let t = taking-costs valued c (x c) (pos 0) (ranged c) (omega (arith, ints)) (omega (arith, ints, clamps)) in omega (arith, ints, clamps)))
        priority once r over in
        omega (arith, ints)

    pub repayments-hold : RepaymentsHold v m base x rooms r (repayment_by m x rooms priority r)
    repayments-hold = record {
      from_zero = λ c. (repaid-in c).from_zero;
      none = λ e c. (repaid-in c).none (let k = rests c in omega (arith, ints));
      none-shut = λ c shut. cond-false (m.is_open c) _ _ shut;
      within-room = λ c. (repaid-in c).within-room;
      within = repaid-within;
      stand = repaid-stands;
    }
