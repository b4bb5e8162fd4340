-- Cut-offs and conclusions: what they leave of each account, and that they keep the invariant.
use Rattle.std.proofs.Common.{◌≡◌, ℕ, zero, suc, Bool, true, false, not, ◌&&◌, leb, List, [], ◌∷◌, ℤ, pos, negsuc, ◌+ℤ◌, ◌≤ℤ◌, ◌<ℤ◌, is_some, Some, None, Option, unwrap_or, sym, refl, subst, arith}
use lib.Signed.{lt_z}
use Rattle.std.proofs.lemmas.Int.{ints, clamps}
use Rattle.std.proofs.lemmas.Bool.{and_parts}
use Rattle.std.specs.Int.{int_max}
use Rattle.money.specs.declared.code.Code.{Code}
use Rattle.money.specs.declared.currency.Currency.{Currency}
use Rattle.money.specs.Currencies.{currencies, place}
use Rattle.money.specs.Options.{every, first_of}
use Rattle.money.specs.Ranges.{bound, within, rate_range, fine_rate}
use Rattle.money.proofs.EachCurrency.{each, place-within}
use Rattle.account.specs.declared.account.AccountState.{AccountState}
use Rattle.account.specs.declared.account.Figures.{Figures}
use Rattle.account.specs.declared.terms.Level.{Level}
use Rattle.account.specs.declared.terms.Level.TheVariants.{MarginRequirement, CashOptimization}
use Rattle.account.specs.Accounts.{figures_in, has_code, in_range, sound, Ranged}
use Rattle.account.proofs.Lists.{every-at-place}
use Rattle.account.proofs.Ranges.{in-range-from}
use Rattle.account.proofs.SoundAccounts.{sound-says, sound-from, figures-ranged}
use Rattle.determination.specs.Balances.{held_cash, room}
use Rattle.determination.specs.Determinations.{call, repayment, determination, amount_in, cash_with_call}
use Rattle.determination.specs.Laws.{Determinable, Payable, DeterminationLaw, EveryDetermination}
use Rattle.valuation.specs.Valuations.{Valuation, IsLawful}
use Rattle.determination.specs.Valuations.{Market}
use Rattle.history.specs.Calls.{FailedDebit, RunNumbers}
use Rattle.request.specs.Causes.{is_none}
use Rattle.history.specs.Histories.{is_carried_out}
use Rattle.history.specs.Runs.{past_bound_or, first_past_bound, cut_off_refusal, with_run, conclusion_refusal, concluded_figures, with_conclusion}
use Rattle.history.specs.States.{State, is_running, rate_in, market_of, missing_rate, account_with}
use Rattle.history.proofs.Concluded.{concluded_by, call-determined, repayment-determined, concludes-open, accounts-concluded}
use Rattle.history.proofs.Found.{found-every}
use Rattle.history.proofs.Invariant.{Tied, Invariant}
use Rattle.history.proofs.Lists.{every_map, every-and, every_of, none_passes}
use Rattle.history.proofs.Tests.{none_told, not_there, both_ways}

-- WHAT A RUN IS DETERMINED BY

rate-fine : (o : Option ℤ) → is_some o ≡ true → fine_rate o ≡ true → within rate_range (unwrap_or o (pos 0)) ≡ true
rate-fine None there fine = let z : ◌≡◌ {A = ℕ} 0 1 = cc in absurd (omega arith)
rate-fine (Some rate) there fine = fine

unnegated : (b : Bool) → not (not b) ≡ true → b ≡ true
unnegated true e = refl
unnegated false e = e

-- where no rate is missing each lies in its range
pub rated : (v : Valuation) (s : State) → Invariant v s → missing_rate s ≡ None → (c : Currency) → within rate_range ((market_of s).rate c) ≡ true
rated v s inv e c =
    let there = unnegated _ (each (λ c. not (not (is_some (rate_in s c)))) (none_passes (λ c. not (is_some (rate_in s c))) currencies e) c) in
    rate-fine (rate_in s c) there (every-at-place fine_rate s.rates (place c) None inv.rates (omega (arith, inv.rate_for_each, place-within c)))

pub determinable : (v : Valuation) (s : State) (a : AccountState) → Invariant v s → missing_rate s ≡ None → sound a ≡ true → v.admits a.base ≡ true → Determinable v (market_of s) a
determinable v s a inv e fine admitted = record { rated = rated v s inv e; admitted = admitted; sound = fine }

abbrev pub is_payable : Valuation → Market → AccountState → Bool
is_payable v m a = is_none (first_of (λ c. lt_z bound (cash_with_call v m a c)) currencies)

all-payable : (v : Valuation) (m : Market) (xs : List AccountState) → first_past_bound v m xs ≡ None → every (is_payable v m) xs ≡ true
all-payable v m [] e = refl
all-payable v m (a ∷ more) e = by (first_of (λ c. lt_z bound (cash_with_call v m a c)) currencies) e (all-payable v m more)
  where
    by : (o : Option Currency) → past_bound_or a.code o (first_past_bound v m more) ≡ None → (first_past_bound v m more ≡ None → every (is_payable v m) more ≡ true) → (is_none o && every (is_payable v m) more) ≡ true
    by None e later = later e
    by (Some c) e later = let z : ◌≡◌ {A = ℕ} 0 1 = cc in absurd (omega arith)

not-past : (x : ℤ) → not (lt_z bound x) ≡ true → x ≤ℤ bound
not-past x e = grind (arith, ints)

payable : (v : Valuation) (m : Market) (a : AccountState) → is_payable v m a ≡ true → Payable v m a
payable v m a e c =
    let none = not_there (first_of (λ c. lt_z bound (cash_with_call v m a c)) currencies) (un e) in
    not-past _ (each (λ c. not (lt_z bound (cash_with_call v m a c))) (none_passes (λ c. lt_z bound (cash_with_call v m a c)) currencies none) c)
  where
    un : {b : Bool} → not b ≡ true → b ≡ false
    un {b = true} e = let z : ◌≡◌ {A = ℕ} 0 1 = cc in absurd (omega arith)
    un {b = false} e = refl

-- AN ACCOUNT AFTER A CONCLUSION

-- the account that a conclusion with these failed debits leaves
abbrev pub concluded_for : Valuation → State → List FailedDebit → AccountState → AccountState
concluded_for v s fs a = concluded_by v (market_of s) (is_carried_out v s fs) a

-- FIGURES STAY IN RANGE

at_most : (x y : ℤ) → pos 0 ≤ℤ x → (pos 0 <ℤ x → x ≤ℤ y) → x ≤ℤ int_max y (pos 0)
at_most (pos zero) y from up = omega (arith, ints, clamps)
at_most (pos (suc n)) y from up = let h : pos (suc n) ≤ℤ y = up (omega (arith, ints)) in omega (arith, ints, clamps)
at_most (negsuc n) y from up = let z : ⊥ = omega (arith, ints) in absurd z

concluded-ranged : (level : Level) (out : Bool) (f : Figures) (called repaid : ℤ) → Ranged f → pos 0 ≤ℤ called → pos 0 ≤ℤ repaid → repaid ≤ℤ int_max (room level f) (pos 0) → (held_cash level f +ℤ called) ≤ℤ bound → Ranged (concluded_figures level out called repaid f)
concluded-ranged MarginRequirement true f called repaid r from paid most past = record {
  cash = record { low = omega (arith, ints, clamps, r.cash.low, r.limit.low, r.excess.low); high = omega (arith, ints) };
  limit = r.limit;
  excess = r.excess;
  non_cash = r.non_cash;
  requirement = r.requirement;
  lowest = omega (arith, ints);
  highest = omega (arith, ints);
}
concluded-ranged MarginRequirement false f called repaid r from paid most past = record {
  cash = record { low = omega (arith, ints, clamps, r.cash.low, r.limit.low); high = omega (arith, ints) };
  limit = r.limit;
  excess = r.excess;
  non_cash = r.non_cash;
  requirement = r.requirement;
  lowest = omega (arith, ints, clamps, r.highest);
  highest = omega (arith, ints, clamps, r.highest);
}
concluded-ranged CashOptimization true f called repaid r from paid most past = record {
  cash = record { low = omega (arith, ints, clamps, r.cash.low, r.limit.low, r.excess.low); high = omega (arith, ints) };
  limit = r.limit;
  excess = r.excess;
  non_cash = r.non_cash;
  requirement = r.requirement;
  lowest = omega (arith, ints);
  highest = omega (arith, ints);
}
concluded-ranged CashOptimization false f called repaid r from paid most past = record {
  cash = r.cash;
  limit = r.limit;
  excess = r.excess;
  non_cash = r.non_cash;
  requirement = r.requirement;
  lowest = r.lowest;
  highest = r.highest;
}

concluded-sound : (v : Valuation) (s : State) (fs : List FailedDebit) (a : AccountState) → sound a ≡ true → DeterminationLaw v (market_of s) a → Payable v (market_of s) a → sound (concluded_for v s fs a) ≡ true
concluded-sound v s fs a fine law pay =
    let m = market_of s in
    sound-from (concluded_for v s fs a) (record {
      for_each = refl;
      ranged = every_of in_range (λ c. concluded_figures a.level (is_carried_out v s fs a.optimization c) (amount_in (determination v m a).calls c) (amount_in (determination v m a).repayments c) (figures_in a c)) currencies (λ c. in-range-from _ (
          subst Ranged (λ i. concluded_figures a.level (is_carried_out v s fs a.optimization c) (sym (call-determined v m a c) i) (sym (repayment-determined v m a c) i) (figures_in a c))
          (concluded-ranged a.level (is_carried_out v s fs a.optimization c) (figures_in a c) (call v m a c) (repayment v m a c) (figures-ranged a fine c)
          (law.call_from_zero c) (law.repayment_from_zero c) (at_most _ _ (law.repayment_from_zero c) (law.leaves_room c)) (pay c))));
      once = (sound-says a fine).once;
    })

-- THE INVARIANT

pub keeps-cut-off : (v : Valuation) (s : State) → Invariant v s → cut_off_refusal v s ≡ None → Invariant v (with_run v s)
keeps-cut-off v s inv e =
    let run = none_told (is_running s) _ _ e in
    let missing = none_told (is_some (missing_rate s)) _ _ run.1 in
    let full = none_told (leb 999999999 s.runs) _ _ missing.1 in
    let past = none_told (is_some (first_past_bound v (market_of s) s.accounts)) _ _ full.1 in
    record {
      sound = inv.sound;
      admitted = inv.admitted;
      rates = inv.rates;
      rate_for_each = inv.rate_for_each;
      tied = λ _. record { rated = not_there (missing_rate s) missing.0; payable = not_there (first_past_bound v (market_of s) s.accounts) past.0; kept = refl };
    }

-- each account of a book with an open run: as it can be, with its base admitted, and payable
pub record Ready (v : Valuation) (s : State) (a : AccountState) : Type 0 where
  pub fine : sound a ≡ true
  pub law : DeterminationLaw v (market_of s) a
  pub pay : Payable v (market_of s) a

abbrev is_ready : Valuation → State → AccountState → Bool
is_ready v s a = sound a && v.admits a.base && is_payable v (market_of s) a

all-ready : (v : Valuation) (s : State) → Invariant v s → Tied v s → every (is_ready v s) s.accounts ≡ true
all-ready v s inv tied =
    every-and (λ a. sound a && v.admits a.base) (is_payable v (market_of s)) s.accounts
    (every-and sound (λ a. v.admits a.base) s.accounts inv.sound inv.admitted) (all-payable v (market_of s) s.accounts tied.payable)

ready : EveryDetermination → (v : Valuation) (s : State) (a : AccountState) → IsLawful v → Invariant v s → Tied v s → is_ready v s a ≡ true → Ready v s a
ready every-law v s a lawful inv tied e =
    let two = and_parts (sound a && v.admits a.base) (is_payable v (market_of s) a) e in
    let one = and_parts (sound a) (v.admits a.base) two.0 in
    record {
      fine = one.0;
      law = every-law v (market_of s) a lawful (determinable v s a inv tied.rated one.0 one.1);
      pay = payable v (market_of s) a two.1;
    }

pub keeps-conclusion : EveryDetermination → (v : Valuation) (s : State) (run : Option RunNumbers) (fs : List FailedDebit) → IsLawful v → Invariant v s → conclusion_refusal s run fs ≡ None → Invariant v (with_conclusion s fs)
keeps-conclusion every-law v s run fs lawful inv e =
    let tied = inv.tied (concludes-open v s run fs inv e) in
    let each-ready = all-ready v s inv tied in
    let is = accounts-concluded v s run fs inv e in
    record {
      sound = subst (λ xs. every sound xs ≡ true) (sym is) (every_map (is_ready v s) (concluded_for v s fs) sound s.accounts each-ready
          (λ a e. let r = ready every-law v s a lawful inv tied e in concluded-sound v s fs a r.fine r.law r.pay));
      admitted = subst (λ xs. every (λ a. v.admits a.base) xs ≡ true) (sym is) (every_map (λ a. v.admits a.base) (concluded_for v s fs) (λ a. v.admits a.base) s.accounts inv.admitted (λ a e. e));
      rates = inv.rates;
      rate_for_each = inv.rate_for_each;
      tied = λ e. both_ways false e refl;
    }

-- the account that is found under a code is ready
pub found-ready : EveryDetermination → (v : Valuation) (s : State) (code : Code) (a : AccountState) → IsLawful v → Invariant v s → Tied v s → account_with s code ≡ Some a → Ready v s a
found-ready every-law v s code a lawful inv tied found =
    ready every-law v s a lawful inv tied (found-every (is_ready v s) (has_code code) s.accounts a (all-ready v s inv tied) found)
