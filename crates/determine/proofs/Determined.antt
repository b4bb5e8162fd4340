-- What is listed is the determination, and what holds of it.
use Rattle.std.proofs.Common.{◌≡◌, ℕ, Bool, true, false, cond, not, ◌&&◌, List, [], ◌∷◌, map, ℤ, pos, ◌+ℤ◌, ◌-ℤ◌, ◌*ℤ◌, ◌≤ℤ◌, Some, None, Option, sym, refl, ap, ◌∙◌, subst, arith}
use lib.Signed.{lt_z}
use Rattle.std.proofs.lemmas.Int.{ints}
use Rattle.std.proofs.lemmas.Bool.{cond-false, not-true}
use Rattle.money.specs.declared.currency.Currency.{Currency}
use Rattle.money.specs.Currencies.{currencies}
use Rattle.money.specs.Options.{first_of, every}
use Rattle.money.specs.Ranges.{bound}
use Rattle.money.proofs.EachCurrency.{at_place, each}
use Rattle.account.specs.declared.account.AccountState.{AccountState}
use Rattle.account.specs.declared.terms.DebitSetting.{DebitSetting}
use Rattle.account.specs.declared.terms.DebitSetting.TheVariants.{MarginCurrency, BaseCurrency}
use Rattle.account.specs.Amounts.{surplus_of, deficiency_of}
use Rattle.determination.specs.Calls.{repayment_by}
use Rattle.determination.specs.Determinations.{balance_in, room_in, held_in, due_in, total, call_for, call, repayment, share, determination, amount_in, cash_with_call, past_bound}
use Rattle.determination.specs.Laws.{DeterminationLaw}
use Rattle.valuation.specs.Valuations.{Valuation}
use Rattle.determination.specs.Valuations.{Market, sum}
use Rattle.determine.specs.Answers.{unless_past, determination_answer, answer_at, Determined, DeterminedBy}
use Rattle.determine.specs.Listed.{calls_by_margin, calls_in_base, calls_for, repayments_by, share_of, shares_of, is_past_bound, determination_at}

-- THE LISTS

module _ (m : Market) (a : AccountState) (r : ℤ) where
  calls-listed : (setting : DebitSetting) → calls_for setting m a r ≡ map (call_for setting m a r) currencies
  unfolding calls_by_margin calls_in_base
  calls-listed MarginCurrency = refl
  calls-listed BaseCurrency = refl

  pub call-amount : (setting : DebitSetting) (c : Currency) → amount_in (calls_for setting m a r) c ≡ call_for setting m a r c
  call-amount setting c = ap (λ (xs : List ℤ). amount_in xs c) (calls-listed setting) ∙ at_place (call_for setting m a r) (pos 0) c

  pub repayment-amount : (c : Currency) → amount_in (repayments_by m a r) c ≡ repayment_by m (balance_in a) (room_in a) a.priority r c
  unfolding repayments_by
  repayment-amount c = at_place (repayment_by m (balance_in a) (room_in a) a.priority r) (pos 0) c

not-above : (x y : ℤ) → lt_z x y ≡ false → y ≤ℤ x
not-above x y e = grind (arith, ints)

-- THE DETERMINATION

module _ (v : Valuation) (m : Market) (a : AccountState) where
  called : (c : Currency) → amount_in (calls_for a.setting m a (deficiency_of (total v m a))) c ≡ call v m a c
  unfolding call
  called c = call-amount m a (deficiency_of (total v m a)) a.setting c

  repaid : (c : Currency) → amount_in (repayments_by m a (surplus_of (total v m a))) c ≡ repayment v m a c
  unfolding repayment
  repaid c = repayment-amount m a (surplus_of (total v m a)) c

  all-called : calls_for a.setting m a (deficiency_of (total v m a)) ≡ map (call v m a) currencies
  unfolding call
  all-called = calls-listed m a (deficiency_of (total v m a)) a.setting

  all-repaid : repayments_by m a (surplus_of (total v m a)) ≡ map (repayment v m a) currencies
  unfolding repayments_by repayment
  all-repaid = refl

  all-shared : shares_of m a (calls_for a.setting m a (deficiency_of (total v m a))) (repayments_by m a (surplus_of (total v m a))) ≡ map (share v m a) currencies
  unfolding shares_of share_of
  all-shared = λ i. map (λ c. cond (m.is_open c) ((due_in a c +ℤ called c i) -ℤ repaid c i) (pos 0)) currencies

  at-total : determination_at m a (total v m a) ≡ determination v m a
  unfolding determination
  at-total = λ i. record { calls = all-called i; repayments = all-repaid i; shares = all-shared i }

  past : first_of (is_past_bound a (calls_for a.setting m a (deficiency_of (total v m a)))) currencies ≡ past_bound v m a
  past = λ i. first_of (λ c. lt_z bound (held_in a c +ℤ called c i)) currencies

  pub answered : answer_at m a (total v m a) ≡ determination_answer v m a
  unfolding determination_answer
  answered = λ i. unless_past a (past i) (at-total i)

  -- THE LAW

  listed-call : (c : Currency) → amount_in (determination v m a).calls c ≡ call v m a c
  unfolding determination
  listed-call c = at_place (call v m a) (pos 0) c

  listed-repayment : (c : Currency) → amount_in (determination v m a).repayments c ≡ repayment v m a c
  unfolding determination
  listed-repayment c = at_place (repayment v m a) (pos 0) c

  listed-share : (c : Currency) → amount_in (determination v m a).shares c ≡ share v m a c
  unfolding determination
  listed-share c = at_place (share v m a) (pos 0) c

  none-past : (cs : List Currency) → first_of (λ c. lt_z bound (cash_with_call v m a c)) cs ≡ None → every (λ c. not (lt_z bound (cash_with_call v m a c))) cs ≡ true
  none-past [] e = refl
  none-past (c ∷ cs) e = by (lt_z bound (cash_with_call v m a c)) e (none-past cs)
    where
      by : (b : Bool) → cond b (Some c) (first_of (λ k. lt_z bound (cash_with_call v m a k)) cs) ≡ None →
          (first_of (λ k. lt_z bound (cash_with_call v m a k)) cs ≡ None → every (λ k. not (lt_z bound (cash_with_call v m a k))) cs ≡ true) → (not b && every (λ k. not (lt_z bound (cash_with_call v m a k))) cs) ≡ true
      by true e later = let z : ◌≡◌ {A = ℕ} 0 1 = cc in absurd (omega arith)
      by false e later = later e

  cash-within : past_bound v m a ≡ None → (c : Currency) → cash_with_call v m a c ≤ℤ bound
  cash-within none c = not-above bound (cash_with_call v m a c) (not-true (lt_z bound (cash_with_call v m a c)) (each (λ k. not (lt_z bound (cash_with_call v m a k))) (none-past currencies none) c))

  module _ (law : DeterminationLaw v m a) where
    determined : past_bound v m a ≡ None → Determined v m a (determination v m a)
    determined none = record {
      call_from_zero = λ c. let e = listed-call c in omega (arith, ints, law.call_from_zero c);
      repayment_from_zero = λ c. let e = listed-repayment c in omega (arith, ints, law.repayment_from_zero c);
      calls_suffice = λ c opened. subst (λ (f : Currency → ℤ). deficiency_of (total v m a) ≤ℤ sum (λ k. f k *ℤ m.rate k) currencies) (λ i k. sym (listed-call k) i) (law.calls_suffice c opened);
      repayments_within = subst (λ (f : Currency → ℤ). sum (λ k. f k *ℤ m.rate k) currencies ≤ℤ surplus_of (total v m a)) (λ i k. sym (listed-repayment k) i) law.repayments_within;
      never_both = λ c k over. listed-call k ∙ law.never_both c k (let e = listed-repayment c in omega (arith, ints));
      no_call_shut = λ c shut. listed-call c ∙ law.no_call_shut c shut;
      no_repayment_shut = λ c shut. listed-repayment c ∙ law.no_repayment_shut c shut;
      no_share_shut = λ c shut. listed-share c ∙ cond-false (m.is_open c) _ (pos 0) shut;
      payable = λ c. let e = listed-call c in omega (arith, ints, cash-within none c);
    }

    pub determined-by : DeterminedBy v m a (determination_answer v m a)
    unfolding determination_answer
    determined-by = by (past_bound v m a) refl
      where
        by : (o : Option Currency) → past_bound v m a ≡ o → DeterminedBy v m a (unless_past a o (determination v m a))
        by None none = determined none
        by (Some c) some = tt
