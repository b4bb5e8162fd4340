-- Where accounts stand after a conclusion and after a callback.
use Rattle.std.proofs.Common.{◌≡◌, ℕ, Bool, true, false, cond, not, ◌||◌, eqb, List, [], ◌∷◌, ℤ, pos, ◌+ℤ◌, ◌-ℤ◌, ◌*ℤ◌, nat_abs, ◌≤ℤ◌, ◌<ℤ◌, is_some, Some, None, Option, sym, refl, ap, ◌∙◌, subst, arith}
use lib.Signed.{lt_z}
use Rattle.std.proofs.lemmas.Int.{ints, clamps}
use Rattle.std.proofs.lemmas.Bool.{and_parts, and_from}
use Rattle.std.specs.Option.{option_map}
use Rattle.money.specs.declared.code.Code.{Code}
use Rattle.money.specs.declared.currency.Currency.{Currency}
use Rattle.money.specs.Currencies.{currencies}
use Rattle.money.specs.Options.{first_of}
use Rattle.account.specs.declared.account.AccountState.{AccountState}
use Rattle.account.specs.declared.account.Figures.{Figures}
use Rattle.account.specs.declared.terms.Level.{Level}
use Rattle.account.specs.Accounts.{figures_in}
use Rattle.account.specs.Amounts.{standing_amount}
use Rattle.determination.specs.Balances.{balance, room}
use Rattle.determination.specs.Determinations.{call, repayment}
use Rattle.determination.specs.Laws.{EveryDetermination}
use Rattle.determination.specs.Standings.{standing_amount_in, standing}
use Rattle.valuation.specs.Valuations.{Valuation, IsLawful}
use Rattle.determination.specs.Valuations.{Market, worth}
use Rattle.determination.proofs.Sums.{sum_same}
use Rattle.history.specs.Calls.{FailedDebit, RunNumbers}
use Rattle.history.specs.Histories.{determined, is_carried_out}
use Rattle.history.specs.Laws.{Stands, CoversLimit, AllOpen}
use Rattle.history.specs.Runs.{names, has_failed, net_payment, conclusion_refusal, concluded_figures, with_conclusion}
use Rattle.history.specs.States.{State, market_of, account_with}
use Rattle.history.proofs.Concluded.{figures-concluded, concludes-open, found-concluded}
use Rattle.history.proofs.Concluding.{concluded_for, Ready, found-ready}
use Rattle.history.proofs.Invariant.{Invariant}
use Rattle.history.proofs.Tests.{not_there}

-- amounts that are the same are worth the same
pub same-worth : (v : Valuation) (m : Market) (base : Currency) (x y : Currency → ℤ) → ((c : Currency) → x c ≡ y c) → worth v m base x currencies ≡ worth v m base y currencies
same-worth v m base x y same = sum_same _ _ currencies (λ c _. ap (λ z. v.counts base c z *ℤ m.rate c) (same c))

-- CARRIED OUT

-- where none passes a test, none passes a stricter one
none-stricter : {X : Type 0} (f g : X → Bool) (xs : List X) → ((x : X) → g x ≡ true → f x ≡ true) → first_of f xs ≡ None → first_of g xs ≡ None
none-stricter f g [] stricter e = refl
none-stricter f g (x ∷ xs) stricter e = by (f x) (g x) (stricter x) e (none-stricter f g xs stricter)
  where
    by : (a b : Bool) → (b ≡ true → a ≡ true) → cond a (Some x) (first_of f xs) ≡ None → (first_of f xs ≡ None → first_of g xs ≡ None) → cond b (Some x) (first_of g xs) ≡ None
    by true b h e later = let z : ◌≡◌ {A = ℕ} 0 1 = cc in absurd (omega arith)
    by false true h e later = let t = h refl in let z : ◌≡◌ {A = ℕ} 0 1 = cc in absurd (omega arith)
    by false false h e later = later e

-- with every currency open, all payments of an optimization account without a failed debit are carried out
all-carried : (v : Valuation) (s : State) (fs : List FailedDebit) (n : ℕ) → AllOpen s → has_failed fs n ≡ false → (c : Currency) → is_carried_out v s fs n c ≡ true
all-carried v s fs n opened none c =
    let unfailed : first_of (names n c) fs ≡ None = none-stricter (λ f. eqb (nat_abs f.number) n) (names n c) fs (λ f e. (and_parts (eqb (nat_abs f.number) n) _ e).0) (not_there _ none) in
    and_from _ _ (and_from _ _ (opened c) (ap (λ o. not (is_some o)) unfailed)) (either (lt_z (pos 0) (net_payment (determined v s) n c)) (ap not none))
  where
    either : (a : Bool) {b : Bool} → b ≡ true → (a || b) ≡ true
    either true e = refl
    either false e = e

-- AMOUNTS AFTER A CONCLUSION

carried-amount : (level : Level) (f : Figures) (called repaid : ℤ) → standing_amount (concluded_figures level true called repaid f) ≡ (balance level f +ℤ called) -ℤ repaid
carried-amount level f called repaid = omega (arith, ints)

amount-paid : (level : Level) (f : Figures) (out : Bool) (called repaid : ℤ) → called ≡ pos 0 → standing_amount (concluded_figures level out called repaid f) ≡ balance level f -ℤ cond out repaid (pos 0)
amount-paid level f true called repaid none = omega (arith, ints)
amount-paid level f false called repaid none = omega (arith, ints)

-- with every payment of an account carried out, and every currency open, it stands at zero or above
pub carried-stands : (v : Valuation) (s : State) (fs : List FailedDebit) (a : AccountState) → Ready v s a → AllOpen s → ((c : Currency) → is_carried_out v s fs a.optimization c ≡ true) → pos 0 ≤ℤ standing v (market_of s) (concluded_for v s fs a)
unfolding standing
carried-stands v s fs a ready opened out =
    subst (λ z. pos 0 ≤ℤ z) (sym (same-worth v (market_of s) a.base (standing_amount_in (concluded_for v s fs a)) _ (λ c.
    ap standing_amount (figures-concluded v (market_of s) a c (is_carried_out v s fs) ∙ ap (λ o. concluded_figures a.level o (call v (market_of s) a c) (repayment v (market_of s) a c) (figures_in a c)) (out c))
    ∙ carried-amount a.level (figures_in a c) (call v (market_of s) a c) (repayment v (market_of s) a c))))
    (ready.law.called_stands opened ready.pay)

-- an account that is repaid anywhere stands at zero or above, whatever else is carried out
pub repaid-stands : (v : Valuation) (s : State) (fs : List FailedDebit) (a : AccountState) (c : Currency) → Ready v s a → pos 0 <ℤ repayment v (market_of s) a c → pos 0 ≤ℤ standing v (market_of s) (concluded_for v s fs a)
unfolding standing
repaid-stands v s fs a c ready repaid =
    let out = is_carried_out v s fs a.optimization in
    subst (λ z. pos 0 ≤ℤ z) (sym (same-worth v (market_of s) a.base (standing_amount_in (concluded_for v s fs a)) _ (λ d.
    ap standing_amount (figures-concluded v (market_of s) a d (is_carried_out v s fs))
    ∙ amount-paid a.level (figures_in a d) (out d) (call v (market_of s) a d) (repayment v (market_of s) a d) (ready.law.never_both c d repaid))))
    (ready.law.repaid_stands (let over = ready.law.only_over_repaid c repaid in omega (arith, ints)) out)

leaves-limit : (level : Level) (f : Figures) (called repaid : ℤ) → called ≡ pos 0 → repaid ≤ℤ room level f → (concluded_figures level true called repaid f).limit ≤ℤ (concluded_figures level true called repaid f).cash
leaves-limit level f called repaid none within = omega (arith, ints, clamps)

-- and where it is repaid its cash covers its limit
pub repaid-covers : (v : Valuation) (s : State) (fs : List FailedDebit) (a : AccountState) (c : Currency) → Ready v s a → pos 0 <ℤ repayment v (market_of s) a c → is_carried_out v s fs a.optimization c ≡ true → CoversLimit (concluded_for v s fs a) c
repaid-covers v s fs a c ready repaid out =
    let m = market_of s in
    let is = figures-concluded v (market_of s) a c (is_carried_out v s fs) ∙ ap (λ o. concluded_figures a.level o (call v m a c) (repayment v m a c) (figures_in a c)) out in
    subst (λ f. f.limit ≤ℤ f.cash) (sym is) (leaves-limit a.level (figures_in a c) (call v m a c) (repayment v m a c) (ready.law.never_both c c repaid) (ready.law.leaves_room c repaid))

-- FOUND AGAIN

-- what is found among changed accounts is the change of what was found
found_before : (v : Valuation) (s : State) (run : Option RunNumbers) (fs : List FailedDebit) (code : Code) (b : AccountState) → Invariant v s → conclusion_refusal s run fs ≡ None → account_with (with_conclusion s fs) code ≡ Some b → (a : AccountState) × (account_with s code ≡ Some a) × (concluded_for v s fs a ≡ b)
found_before v s run fs code b inv e found = by (account_with s code) refl (sym (found-concluded v s run fs inv e code) ∙ found)
  where
    by : (o : Option AccountState) → account_with s code ≡ o → option_map (concluded_for v s fs) o ≡ Some b → (a : AccountState) × (account_with s code ≡ Some a) × (concluded_for v s fs a ≡ b)
    by None is e = let z : ◌≡◌ {A = ℕ} 0 1 = cc in absurd (omega arith)
    by (Some a) is e = (a, is, cc)

-- THE CONCLUSION

pub conclusion-stands : EveryDetermination → (v : Valuation) (s : State) (run : Option RunNumbers) (fs : List FailedDebit) → IsLawful v → Invariant v s → conclusion_refusal s run fs ≡ None → AllOpen s → (code : Code) (b : AccountState) → account_with (with_conclusion s fs) code ≡ Some b → has_failed fs b.optimization ≡ false → Stands v (with_conclusion s fs) b
conclusion-stands every-law v s run fs lawful inv e opened code b found none =
    let tied = inv.tied (concludes-open v s run fs inv e) in
    let p = found_before v s run fs code b inv e found in
    let a = p.0 in
    let unfailed : has_failed fs a.optimization ≡ false = ap (λ b. has_failed fs b.optimization) p.2 ∙ none in
    subst (λ b. pos 0 ≤ℤ standing v (market_of s) b) p.2 (carried-stands v s fs a (found-ready every-law v s code a lawful inv tied p.1) opened (all-carried v s fs a.optimization opened unfailed))

pub conclusion-covers : EveryDetermination → (v : Valuation) (s : State) (run : Option RunNumbers) (fs : List FailedDebit) → IsLawful v → Invariant v s → conclusion_refusal s run fs ≡ None → (code : Code) (a b : AccountState) (c : Currency) → account_with s code ≡ Some a → account_with (with_conclusion s fs) code ≡ Some b → pos 0 <ℤ repayment v (market_of s) a c → is_carried_out v s fs a.optimization c ≡ true → Stands v (with_conclusion s fs) b × CoversLimit b c
conclusion-covers every-law v s run fs lawful inv e code a b c here there repaid out =
    let tied = inv.tied (concludes-open v s run fs inv e) in
    let p = found_before v s run fs code b inv e there in
    let same : p.0 ≡ a = let q = p.1 in cc in
    let is : concluded_for v s fs a ≡ b = ap (concluded_for v s fs) (sym same) ∙ p.2 in
    let ready = found-ready every-law v s code a lawful inv tied here in
    subst (λ b. (pos 0 ≤ℤ standing v (market_of s) b) × CoversLimit b c) is (repaid-stands v s fs a c ready repaid, repaid-covers v s fs a c ready repaid out)
