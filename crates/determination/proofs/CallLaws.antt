-- What holds of calls.
use Rattle.std.proofs.Common.{◌≡◌, ◌<◌, true, false, List, ◌∷◌, ℤ, pos, ◌+ℤ◌, ◌*ℤ◌, ◌≤ℤ◌, ◌<ℤ◌, refl, ap, arith}
use Rattle.std.specs.Int.{int_min}
use Rattle.std.proofs.lemmas.Int.{ints, clamps, by_lt_z}
use Rattle.std.proofs.lemmas.Bool.{cond-true, cond-false, cond_both}
use Rattle.money.specs.declared.currency.Currency.{Currency}
use Rattle.money.specs.Currencies.{currencies}
use Rattle.money.specs.Options.{first_of}
use Rattle.account.specs.Priorities.{times}
use Rattle.account.specs.Amounts.{deficiency_of}
use Rattle.valuation.specs.Laws.{InRange}
use Rattle.determination.specs.Calls.{call_at, all_called_in, call_by_margin, call_in_base}
use Rattle.determination.specs.Roundings.{rounded_up}
use Rattle.valuation.specs.Valuations.{Valuation}
use Rattle.determination.specs.Valuations.{Market, sum, worth}
use Rattle.determination.specs.Walks.{rest_after, rest_at, rest_at_end, taken}
use Rattle.determination.proofs.FirstOpenLaws.{first_some, all-from-zero, all_none, all-none-shut, all_there, all-suffices}
use Rattle.determination.proofs.Namings.{EachOnce, named-later}
use Rattle.determination.proofs.Points.{Valued, points, rate-from-zero, surplus-points, points-rise, paying-in-base, paying-gains}
use Rattle.determination.proofs.Products.{in-points, worth-from-zero, rounded-up}
use Rattle.determination.proofs.Sums.{sum_same, sum-rises, sum-joins, sum-none, sum-one-more}
use Rattle.determination.proofs.WalkLaws.{rest-at, rest-at-end, rest-after-each, walk-compares}

-- what holds of the calls of r points, where the balances are x
pub record CallsHold (v : Valuation) (m : Market) (base : Currency) (x : Currency → ℤ) (r : ℤ) (called : Currency → ℤ) : Type 0 where
  pub from_zero : (c : Currency) → pos 0 ≤ℤ called c
  pub none : r ≡ pos 0 → (c : Currency) → called c ≡ pos 0
  pub none-shut : (c : Currency) → m.is_open c ≡ false → called c ≡ pos 0
  pub suffice : (c : Currency) → m.is_open c ≡ true → r ≤ℤ sum (λ d. called d *ℤ m.rate d) currencies
  pub stand : ((c : Currency) → m.is_open c ≡ true) → ((c : Currency) → InRange (x c +ℤ called c)) →
      pos 0 ≤ℤ (worth v m base x currencies +ℤ r) → pos 0 ≤ℤ worth v m base (λ c. x c +ℤ called c) currencies

module _ {v : Valuation} {m : Market} {base : Currency} (valued : Valued v m base) (x : Currency → ℤ) (ranged : (c : Currency) → InRange (x c)) where
  abbrev positive : (c : Currency) → pos 0 ≤ℤ m.rate c
  positive = rate-from-zero m valued.rated

  -- ONE CALL

  -- it is at most the deficiency
  call-within : (r : ℤ) (c : Currency) → pos 0 ≤ℤ r → (pos 0 ≤ℤ call_at m x r c) × (call_at m x r c ≤ℤ deficiency_of (x c))
  call-within r c h =
      let up = (rounded-up r (m.rate c) h (valued.rated c)).from_zero in
      cond_both (m.is_open c) (int_min (deficiency_of (x c)) (rounded_up r (m.rate c))) (pos 0) (λ w. (pos 0 ≤ℤ w) × (w ≤ℤ deficiency_of (x c)))
      (λ _. (omega (arith, ints, clamps), omega (arith, ints, clamps))) (λ _. (omega (arith, ints), omega (arith, ints, clamps)))

  call-worth : (r : ℤ) (c : Currency) → pos 0 ≤ℤ r → pos 0 ≤ℤ (call_at m x r c *ℤ m.rate c)
  call-worth r c h = worth-from-zero (call_at m x r c) (m.rate c) (positive c) (call-within r c h).0

  call_none : (r : ℤ) (c : Currency) → r ≡ pos 0 → call_at m x r c ≡ pos 0
  call_none r c e =
      let up = (rounded-up r (m.rate c) (omega (arith, ints)) (valued.rated c)).none e in
      cond_both (m.is_open c) (int_min (deficiency_of (x c)) (rounded_up r (m.rate c))) (pos 0) (λ w. w ≡ pos 0) (λ _. omega (arith, ints, clamps)) (λ _. refl)

  -- where points rest after it, no deficiency does
  call-fills : (r : ℤ) (c : Currency) → pos 0 ≤ℤ r → m.is_open c ≡ true → pos 0 <ℤ rest_after (call_at m x) m.rate r c → pos 0 ≤ℤ (x c +ℤ call_at m x r c)
  call-fills r c h opened rests =
      let up = rounded_up r (m.rate c) in
      let enough = (rounded-up r (m.rate c) h (valued.rated c)).enough in
      let is : call_at m x r c ≡ int_min (deficiency_of (x c)) up = cond-true (m.is_open c) _ _ opened in
      by_lt_z up (deficiency_of (x c))
      (λ less. let same : call_at m x r c ≡ up = omega (arith, ints, clamps) in let worth = ap (λ w. w *ℤ m.rate c) same in absurd (omega (arith, ints, clamps)))
      (λ full. omega (arith, ints, clamps))

  module _ (priority : List Currency) (once : EachOnce priority) (r : ℤ) (short : pos 0 ≤ℤ r) where
    -- BY PRIORITY

    abbrev rest_in : Currency → ℤ
    rest_in = rest_at (call_at m x) m.rate priority r

    rest_in-within : (c : Currency) → (pos 0 ≤ℤ rest_in c) × (rest_in c ≤ℤ r)
    rest_in-within c = rest-at (call_at m x) m.rate call-worth priority r c short

    abbrev rest : ℤ
    rest = rest_at_end (call_at m x) m.rate priority r

    rests : (pos 0 ≤ℤ rest) × (rest ≤ℤ r)
    rests = rest-at-end (call_at m x) m.rate call-worth priority r short

    -- a call by margin is that of the walk, and what it leaves is called besides
    abbrev walked : Currency → ℤ
    walked = taken (call_at m x) m.rate priority r

    abbrev besides : Currency → ℤ
    besides = all_called_in m (first_of m.is_open priority) rest

    besides-from-zero : (c : Currency) → pos 0 ≤ℤ besides c
    besides-from-zero = all-from-zero m valued.rated (first_of m.is_open priority) rest rests.0

    besides-none : rest ≤ℤ pos 0 → (c : Currency) → besides c ≡ pos 0
    besides-none used = let k = rests in all_none m valued.rated (first_of m.is_open priority) rest (omega (arith, ints))

    margin-suffices : (c : Currency) → m.is_open c ≡ true → r ≤ℤ sum (λ d. call_by_margin m x priority r d *ℤ m.rate d) currencies
    margin-suffices c opened =
        let named : 0 < times c priority = let n = once c in omega arith in
        let walk = walk-compares (call_at m x) m.rate call-worth (λ r c. pos 0) (λ r c. call_at m x r c *ℤ m.rate c) (λ r. r) (λ r c h. omega (arith, ints, clamps)) priority once r short in
        let none = sum-none currencies in
        let more = all-suffices m valued.rated (first_of m.is_open priority) (first_some m.is_open c priority named opened) rest rests.0 in
        let both = sum-joins (λ d. walked d *ℤ m.rate d) (λ d. besides d *ℤ m.rate d) (λ d. call_by_margin m x priority r d *ℤ m.rate d) currencies
        (λ d. let p = in-points (walked d) (besides d) (call_by_margin m x priority r d) (pos 0) (m.rate d) (positive d) (omega (arith, ints)) in omega (arith, ints)) in
        omega (arith, ints)

    -- the walk alone raises the points by what it uses up
    walk-gains : (worth v m base x currencies +ℤ r) ≤ℤ (worth v m base (λ c. x c +ℤ walked c) currencies +ℤ rest)
    walk-gains =
        walk-compares (call_at m x) m.rate call-worth (λ r c. points v m base c (x c)) (λ r c. points v m base c (x c +ℤ call_at m x r c)) (λ r. r)
        (λ r c h. let w = call-within r c h in let g = paying-gains valued c (x c) (call_at m x r c) (ranged c) w.0 w.1 in omega (arith, ints, clamps)) priority once r short

    -- if it leaves points, it leaves no deficiency
    walk-fills : ((c : Currency) → m.is_open c ≡ true) → pos 0 <ℤ rest → (c : Currency) → pos 0 ≤ℤ (x c +ℤ walked c)
    walk-fills opened some c =
        let named : 0 < times c priority = let n = once c in omega arith in
        let after = rest-after-each (call_at m x) m.rate call-worth priority r c short named in
        call-fills (rest_in c) c (rest_in-within c).0 (opened c) (omega (arith, ints))

    margin-stands : ((c : Currency) → m.is_open c ≡ true) → ((c : Currency) → InRange (x c +ℤ call_by_margin m x priority r c)) →
        pos 0 ≤ℤ (worth v m base x currencies +ℤ r) → pos 0 ≤ℤ worth v m base (λ c. x c +ℤ call_by_margin m x priority r c) currencies
    margin-stands opened called-ranged total =
        by_lt_z (pos 0) rest
        (λ some.
        let none = sum-none currencies in
        let each = sum-rises (λ c. pos 0) (λ c. points v m base c (x c +ℤ call_by_margin m x priority r c)) currencies
        (λ c. let f = walk-fills opened some c in let b = besides-from-zero c in surplus-points valued c (x c +ℤ call_by_margin m x priority r c) (called-ranged c) (omega (arith, ints))) in
        omega (arith, ints))
        (λ used.
        let gains = walk-gains in
        let same = sum_same (λ c. points v m base c (x c +ℤ call_by_margin m x priority r c)) (λ c. points v m base c (x c +ℤ walked c)) currencies
        (λ c _. ap (points v m base c) (let b = besides-none used c in omega (arith, ints))) in
        omega (arith, ints))

    pub margin-calls : CallsHold v m base x r (call_by_margin m x priority r)
    margin-calls = record {
      from_zero = λ c. let w = call-within (rest_in c) c (rest_in-within c).0 in let b = besides-from-zero c in omega (arith, ints);
      none = λ e c.
          let i = rest_in-within c in let w = call_none (rest_in c) c (omega (arith, ints)) in
          let k = rests in let b = besides-none (omega (arith, ints)) c in
          omega (arith, ints);
      none-shut = λ c shut. let w : walked c ≡ pos 0 = cond-false (m.is_open c) _ _ shut in let b = all-none-shut m valued.rated priority rest c shut in omega (arith, ints);
      suffice = margin-suffices;
      stand = margin-stands;
    }

    -- IN THE BASE

    base-stands : ((c : Currency) → m.is_open c ≡ true) → ((c : Currency) → InRange (x c +ℤ call_in_base m base priority r c)) →
        pos 0 ≤ℤ (worth v m base x currencies +ℤ r) → pos 0 ≤ℤ worth v m base (λ c. x c +ℤ call_in_base m base priority r c) currencies
    base-stands opened called-ranged total =
        let first = first_of m.is_open (base ∷ priority) in
        let k = call_in_base m base priority r in
        let enough = all_there m valued.rated first base (cond-true (m.is_open base) _ _ (opened base)) r short in
        let gain = paying-in-base valued (x base) (k base) (ranged base) (called-ranged base) in
        let more = sum-one-more (λ c. points v m base c (x c)) (λ c. points v m base c (x c +ℤ k c)) r base
        (λ c. let b = all-from-zero m valued.rated first r short c in points-rise valued c (x c) (x c +ℤ k c) (ranged c) (called-ranged c) (omega (arith, ints)))
        (omega (arith, ints)) in
        omega (arith, ints)

    pub base-calls : CallsHold v m base x r (call_in_base m base priority r)
    base-calls =
        let first = first_of m.is_open (base ∷ priority) in
        record {
          from_zero = all-from-zero m valued.rated first r short;
          none = all_none m valued.rated first r;
          none-shut = all-none-shut m valued.rated (base ∷ priority) r;
          suffice = λ c opened.
              let named : 0 < times c (base ∷ priority) = let n = once c in let l = named-later c base priority in omega arith in
              all-suffices m valued.rated first (first_some m.is_open c (base ∷ priority) named opened) r short;
          stand = base-stands;
        }
