-- What a conclusion leaves of each account.
use Rattle.std.proofs.Common.{◌≡◌, ℕ, Bool, true, false, cond, not, ◌&&◌, ◌||◌, eqb, List, [], ◌∷◌, map, ℤ, pos, ◌+ℤ◌, ◌-ℤ◌, is_some, Some, None, Option, sym, refl, ap, ◌∙◌, ap₂, arith}
use mathlib.Core.List.{map-map}
use lib.Signed.{lt_z}
use Rattle.std.proofs.lemmas.Int.{ints, clamps}
use Rattle.std.proofs.lemmas.Bool.{and_parts, eqb-true}
use Rattle.std.specs.Option.{option_map}
use Rattle.money.specs.declared.code.Code.{Code}
use Rattle.money.specs.declared.currency.Currency.{Currency}
use Rattle.money.specs.Options.{first_of}
use Rattle.money.proofs.EachCurrency.{at_place}
use Rattle.account.specs.declared.account.AccountState.{AccountState}
use Rattle.account.specs.declared.account.Figures.{Figures}
use Rattle.account.specs.declared.terms.Level.{Level}
use Rattle.account.specs.declared.terms.Level.TheVariants.{MarginRequirement, CashOptimization}
use Rattle.account.specs.Accounts.{no_figures, figures_in, has_code}
use Rattle.determination.specs.Balances.{held_cash}
use Rattle.determination.specs.Determinations.{call, repayment, due, share, determination, amount_in}
use Rattle.valuation.specs.Valuations.{Valuation}
use Rattle.determination.specs.Valuations.{Market}
use Rattle.history.specs.declared.run.OpenRun.{OpenRun}
use Rattle.history.specs.Calls.{conclude, FailedDebit, RunNumbers}
use Rattle.history.specs.Histories.{determined, is_carried_out}
use Rattle.history.specs.Laws.{position, joint_position}
use Rattle.history.specs.Runs.{entries, net_payment, has_failed_in, has_failed, is_of_run, concluded_figures, concluded_account, concluded_accounts, with_conclusion}
use Rattle.history.specs.States.{State, is_running, market_of, account_with}
use Rattle.history.specs.Steps.{refused}
use Rattle.history.proofs.Found.{found_map}
use Rattle.history.proofs.Invariant.{Invariant}
use Rattle.history.proofs.Tests.{none_told, not-not}

-- ONE ACCOUNT

-- an account after a conclusion of what is determined for it, where some payments are carried out
abbrev pub concluded_by : Valuation → Market → (ℕ → Currency → Bool) → AccountState → AccountState
concluded_by v m out a = concluded_account (out a.optimization) (a, determination v m a)

module _ (v : Valuation) (m : Market) (a : AccountState) (c : Currency) where
  pub call-determined : amount_in (determination v m a).calls c ≡ call v m a c
  unfolding determination
  call-determined = at_place (call v m a) (pos 0) c

  pub repayment-determined : amount_in (determination v m a).repayments c ≡ repayment v m a c
  unfolding determination
  repayment-determined = at_place (repayment v m a) (pos 0) c

  pub share-determined : amount_in (determination v m a).shares c ≡ share v m a c
  unfolding determination
  share-determined = at_place (share v m a) (pos 0) c

  pub figures-concluded : (out : ℕ → Currency → Bool) →
      figures_in (concluded_by v m out a) c ≡ concluded_figures a.level (out a.optimization c) (call v m a c) (repayment v m a c) (figures_in a c)
  figures-concluded out =
      at_place (λ d. concluded_figures a.level (out a.optimization d) (amount_in (determination v m a).calls d) (amount_in (determination v m a).repayments d) (figures_in a d)) no_figures c
      ∙ ap₂ (λ x y. concluded_figures a.level (out a.optimization c) x y (figures_in a c)) call-determined repayment-determined

-- held cash less what is due is cash less open settlement
pub held-less-due : (level : Level) (f : Figures) → held_cash level f -ℤ due level f ≡ position f
held-less-due MarginRequirement f = omega (arith, ints, clamps)
held-less-due CashOptimization f = refl

-- how sums go together
pub plus_none : (x : ℤ) → x ≡ x +ℤ pos 0
plus_none x = omega (arith, ints)

paid : (held owed called repaid p : ℤ) → held -ℤ owed ≡ p → ((held +ℤ called) -ℤ repaid) -ℤ pos 0 ≡ p +ℤ ((owed +ℤ called) -ℤ repaid)
paid held owed called repaid p e = omega (arith, ints)

nothing : (b : Bool) → pos 0 ≡ pos 0 +ℤ cond b (pos 0) (pos 0)
nothing true = refl
nothing false = refl

together : (b : Bool) (p x q y : ℤ) → (p +ℤ cond b x (pos 0)) +ℤ (q +ℤ cond b y (pos 0)) ≡ (p +ℤ q) +ℤ cond b (x +ℤ y) (pos 0)
together true p x q y = omega (arith, ints)
together false p x q y = omega (arith, ints)

-- it rises by its share, where that is carried out; what is carried out is open
module _ (v : Valuation) (m : Market) (out : ℕ → Currency → Bool) (is_open : (number : ℕ) (c : Currency) → out number c ≡ true → m.is_open c ≡ true) where
  pub position-concluded : (a : AccountState) (c : Currency) → position (figures_in (concluded_by v m out a) c) ≡ position (figures_in a c) +ℤ cond (out a.optimization c) (share v m a c) (pos 0)
  position-concluded a c = ap position (figures-concluded v m a c out) ∙ by (out a.optimization c) refl
    where
      by : (b : Bool) → out a.optimization c ≡ b →
          position (concluded_figures a.level b (call v m a c) (repayment v m a c) (figures_in a c)) ≡ position (figures_in a c) +ℤ cond b (share v m a c) (pos 0)
      by true is =
          let whole = (due a.level (figures_in a c) +ℤ call v m a c) -ℤ repayment v m a c in
          paid _ (due a.level (figures_in a c)) (call v m a c) (repayment v m a c) (position (figures_in a c)) (held-less-due a.level (figures_in a c))
          ∙ ap (λ z. position (figures_in a c) +ℤ cond z whole (pos 0)) (sym (is_open a.optimization c is))
      by false is = held-less-due a.level (figures_in a c) ∙ plus_none (position (figures_in a c))

  -- an optimization account rises by its net payment
  pub joint-concluded : (xs : List AccountState) (number : ℕ) (c : Currency) →
      joint_position (map (concluded_by v m out) xs) number c ≡ joint_position xs number c +ℤ cond (out number c) (net_payment (map (λ a. (a, determination v m a)) xs) number c) (pos 0)
  joint-concluded [] number c = nothing (out number c)
  joint-concluded (a ∷ xs) number c =
      ap₂ ◌+ℤ◌ (by (eqb a.optimization number) refl) (joint-concluded xs number c)
      ∙ together (out number c) (cond (eqb a.optimization number) (position (figures_in a c)) (pos 0)) _ (joint_position xs number c) _
    where
      by : (b : Bool) → eqb a.optimization number ≡ b →
          cond b (position (figures_in (concluded_by v m out a) c)) (pos 0) ≡ cond b (position (figures_in a c)) (pos 0) +ℤ cond (out number c) (cond b (amount_in (determination v m a).shares c) (pos 0)) (pos 0)
      by true is =
          position-concluded a c
          ∙ ap₂ (λ n x. position (figures_in a c) +ℤ cond (out n c) x (pos 0)) (eqb-true a.optimization number is) (sym (share-determined v m a c))
      by false _ = nothing (out number c)

-- ALL ACCOUNTS

pub entries-determined : (v : Valuation) (m : Market) (xs : List AccountState) → entries xs (map (determination v m) xs) ≡ map (λ a. (a, determination v m a)) xs
entries-determined v m [] = refl
entries-determined v m (a ∷ xs) = ap (λ es. (a, determination v m a) ∷ es) (entries-determined v m xs)

-- what is concluded is the open run
of-open-run : (s : State) (running : Option OpenRun) (run : Option RunNumbers) → is_of_run s running run ≡ true → is_some running ≡ true
of-open-run s None run e = e
of-open-run s (Some r) run e = refl

module _ (v : Valuation) (s : State) (run : Option RunNumbers) (failed : List FailedDebit) (inv : Invariant v s) (granted : refused v s (conclude run failed) ≡ None) where
  pub concludes-open : is_running s ≡ true
  concludes-open = of-open-run s s.running run (not-not _ (none_told (not (is_of_run s s.running run)) _ _ granted).0)

  pub kept-determined : entries s.accounts s.kept ≡ determined v s
  kept-determined = ap (entries s.accounts) (inv.tied concludes-open).kept ∙ entries-determined v (market_of s) s.accounts

  pub accounts-concluded : (with_conclusion s failed).accounts ≡ map (concluded_by v (market_of s) (is_carried_out v s failed)) s.accounts
  accounts-concluded =
      ap (concluded_accounts (market_of s) failed) kept-determined
      ∙ map-map (λ (e : AccountState × _). concluded_account (is_carried_out v s failed e.0.optimization) e) (λ a. (a, determination v (market_of s) a)) s.accounts

  pub found-concluded : (code : Code) → account_with (with_conclusion s failed) code ≡ option_map (concluded_by v (market_of s) (is_carried_out v s failed)) (account_with s code)
  found-concluded code = ap (first_of (has_code code)) accounts-concluded ∙ found_map (has_code code) (concluded_by v (market_of s) (is_carried_out v s failed)) s.accounts

-- what is carried out is open
pub carried-open : (v : Valuation) (s : State) (failed : List FailedDebit) (number : ℕ) (c : Currency) → is_carried_out v s failed number c ≡ true → (market_of s).is_open c ≡ true
carried-open v s failed number c out =
    let is_open = (market_of s).is_open c in
    let spared = not (has_failed_in failed number c) in
    (and_parts is_open spared (and_parts (is_open && spared) (lt_z (pos 0) (net_payment (determined v s) number c) || not (has_failed failed number)) out).0).0
