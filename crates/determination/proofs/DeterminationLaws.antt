-- The law holds of every determination.
use Rattle.std.proofs.Common.{◌≡◌, Bool, true, cond, ℤ, pos, ◌+ℤ◌, ◌-ℤ◌, ◌*ℤ◌, ◌≤ℤ◌, ◌<ℤ◌, ap, subst, arith}
use Rattle.std.proofs.lemmas.Int.{ints, clamps, by_lt_z}
use Rattle.money.specs.declared.currency.Currency.{Currency}
use Rattle.money.specs.Currencies.{currencies}
use Rattle.money.specs.Ranges.{rate_range}
use Rattle.account.specs.declared.account.AccountState.{AccountState}
use Rattle.account.specs.declared.terms.DebitSetting.{DebitSetting}
use Rattle.account.specs.declared.terms.DebitSetting.TheVariants.{MarginCurrency, BaseCurrency}
use Rattle.account.specs.Amounts.{surplus_of, deficiency_of}
use Rattle.valuation.specs.Laws.{InRange}
use Rattle.determination.specs.Determinations.{balance_in, room_in, total, call_for, call, repayment}
use Rattle.determination.specs.Laws.{Determinable, Payable, DeterminationLaw, EveryDetermination}
use Rattle.valuation.specs.Valuations.{Valuation, IsLawful}
use Rattle.determination.specs.Valuations.{Market, worth}
use Rattle.determination.proofs.BalanceLaws.{range-ends, priority-once, balance-in-range, called-in-range}
use Rattle.determination.proofs.CallLaws.{CallsHold, margin-calls, base-calls}
use Rattle.determination.proofs.Namings.{EachOnce}
use Rattle.determination.proofs.Points.{Valued}
use Rattle.determination.proofs.RepaymentLaws.{RepaymentsHold, repayments-hold}
use Rattle.determination.proofs.Sums.{sum_same}

module _ (v : Valuation) (m : Market) (a : AccountState) (lawful : IsLawful v) (given : Determinable v m a) where
  valued : Valued v m a.base
  valued = record { laws = lawful; admitted = given.admitted; rated = λ c. let r = range-ends rate_range (m.rate c) (given.rated c) in omega (arith, ints) }

  ranged : (c : Currency) → InRange (balance_in a c)
  ranged = balance-in-range a given.sound

  once : EachOnce a.priority
  once = priority-once a given.sound

  calls-for : (setting : DebitSetting) (r : ℤ) → pos 0 ≤ℤ r → CallsHold v m a.base (balance_in a) r (call_for setting m a r)
  calls-for MarginCurrency = margin-calls valued (balance_in a) ranged a.priority once
  calls-for BaseCurrency = base-calls valued (balance_in a) ranged a.priority once

  calls : CallsHold v m a.base (balance_in a) (deficiency_of (total v m a)) (call v m a)
  unfolding call
  calls = calls-for a.setting (deficiency_of (total v m a)) (omega (arith, ints, clamps))

  repayments : RepaymentsHold v m a.base (balance_in a) (room_in a) (surplus_of (total v m a)) (repayment v m a)
  unfolding repayment
  repayments = repayments-hold valued (balance_in a) (room_in a) ranged a.priority once (surplus_of (total v m a)) (omega (arith, ints, clamps))

  -- where nothing is short nothing is called, and where nothing is over nothing is repaid
  nothing-called : pos 0 ≤ℤ total v m a → (c : Currency) → call v m a c ≡ pos 0
  nothing-called h = calls.none (omega (arith, ints, clamps))

  nothing-repaid : total v m a ≤ℤ pos 0 → (c : Currency) → repayment v m a c ≡ pos 0
  nothing-repaid h = repayments.none (omega (arith, ints, clamps))

  only-over : (c : Currency) → pos 0 <ℤ repayment v m a c → pos 0 <ℤ total v m a
  only-over c repaid =
      by_lt_z (pos 0) (total v m a) (λ over. omega (arith, ints))
      (λ short. let none = nothing-repaid short c in absurd (omega (arith, ints)))

  never_both : (c d : Currency) → pos 0 <ℤ repayment v m a c → call v m a d ≡ pos 0
  never_both c d repaid = let over = only-over c repaid in nothing-called (omega (arith, ints)) d

  repaid-stands : pos 0 ≤ℤ total v m a → (paid : Currency → Bool) →
      pos 0 ≤ℤ worth v m a.base (λ c. balance_in a c -ℤ cond (paid c) (repayment v m a c) (pos 0)) currencies
  unfolding total
  repaid-stands h paid = repayments.stand paid (omega (arith, ints, clamps))

  -- only the calls or only the repayments change a balance
  called-stands : ((c : Currency) → m.is_open c ≡ true) → Payable v m a → pos 0 ≤ℤ worth v m a.base (λ c. (balance_in a c +ℤ call v m a c) -ℤ repayment v m a c) currencies
  unfolding total
  called-stands opened payable =
      by_lt_z (total v m a) (pos 0)
      (λ short.
      let stands = calls.stand opened (λ c. called-in-range a given.sound c (call v m a c) (calls.from_zero c) (payable c)) (omega (arith, ints, clamps)) in
      subst (λ z. pos 0 ≤ℤ z) (same-worth (λ c. balance_in a c +ℤ call v m a c) (λ c. let none = nothing-repaid (omega (arith, ints)) c in omega (arith, ints))) stands)
      (λ over.
      subst (λ z. pos 0 ≤ℤ z) (same-worth (λ c. balance_in a c -ℤ repayment v m a c) (λ c. let none = nothing-called over c in omega (arith, ints))) (repaid-stands over (λ _. true)))
    where
      same-worth : (y : Currency → ℤ) → ((c : Currency) → y c ≡ (balance_in a c +ℤ call v m a c) -ℤ repayment v m a c) →
          worth v m a.base y currencies ≡ worth v m a.base (λ c. (balance_in a c +ℤ call v m a c) -ℤ repayment v m a c) currencies
      same-worth y same = sum_same _ _ currencies (λ c _. ap (λ z. v.counts a.base c z *ℤ m.rate c) (same c))

  determination-law : DeterminationLaw v m a
  determination-law = record {
    call_from_zero = calls.from_zero;
    repayment_from_zero = repayments.from_zero;
    no_call_shut = calls.none-shut;
    no_repayment_shut = repayments.none-shut;
    only_over_repaid = only-over;
    never_both = never_both;
    leaves_room = λ c repaid. let within = repayments.within-room c in omega (arith, ints, clamps);
    calls_suffice = calls.suffice;
    repayments_within = repayments.within;
    repaid_stands = repaid-stands;
    called_stands = called-stands;
  }

pub every-determination : EveryDetermination
every-determination = determination-law
