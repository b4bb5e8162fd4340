-- Cash less open settlement moves by what a call pays in.
use Rattle.std.proofs.Common.{◌≡◌, ℕ, Bool, true, false, cond, List, [], ◌∷◌, ℤ, pos, ◌+ℤ◌, neg_ℤ, nat_abs, is_some, Some, None, Option, sym, refl, ap, ◌∙◌, subst, ap₂, arith}
use Rattle.std.proofs.lemmas.Int.{ints}
use Rattle.std.proofs.lemmas.Bool.{cond-true, cond-false}
use Rattle.std.specs.Option.{option_map}
use Rattle.std.specs.Str.{bytes_eq}
use Rattle.money.specs.declared.code.Code.{Code}
use Rattle.money.specs.declared.currency.Currency.{Currency}
use Rattle.money.specs.Codes.{bytes_of, code_of}
use Rattle.money.specs.Currencies.{currency_of, is_same}
use Rattle.money.specs.Options.{first_of, every}
use Rattle.money.specs.Statuses.{status_of}
use Rattle.money.proofs.EachCurrency.{same-currency}
use Rattle.account.specs.declared.account.AccountState.{AccountState}
use Rattle.account.specs.declared.account.Figures.{Figures}
use Rattle.account.specs.Accounts.{no_figures, figures_in, new_account, has_code, sound}
use Rattle.account.specs.Bookings.{change_figures, with_limits, with_margin, deposit_booked, settlement_booked, callback_booked}
use Rattle.account.specs.Priorities.{priority_of}
use Rattle.account.specs.Terms.{level_of, setting_of}
use Rattle.valuation.specs.Valuations.{Valuation}
use Rattle.money.specs.CodeOrders.{is_below}
use Rattle.history.specs.Bookings.{or_same, held_under, is_held, insert_account, figures_for, limits_faults, margin_faults, deposit_faults, settlement_faults, callback_faults, change_first, booked}
use Rattle.history.specs.Calls.{Call, set_rate, set_holiday, open_account, set_limits, set_margin, deposit, settle, call_back, cut_off, conclude, ask_standing, FailedDebit, RunNumbers}
use Rattle.request.specs.Causes.{is_none}
use Rattle.history.specs.Histories.{determined, is_carried_out, is_code, amount_for, share_carried_out, paid_in}
use Rattle.history.specs.Laws.{position, position_of, joint_position}
use Rattle.history.specs.Runs.{net_payment, is_currency, with_conclusion}
use Rattle.history.specs.States.{State, is_running, market_of, account_with}
use Rattle.history.specs.Steps.{refused, changed}
use Rattle.history.proofs.Concluded.{plus_none, concluded_by, position-concluded, joint-concluded, accounts-concluded, found-concluded, carried-open}
use Rattle.history.proofs.Found.{found-every, none_found, found-changed, found-unchanged}
use Rattle.history.proofs.Invariant.{Invariant}
use Rattle.history.proofs.Named.{Named, named-says, booked-is}
use Rattle.history.proofs.Places.{figures-with, new-figures, same_code, other-code}
use Rattle.history.proofs.Tests.{none_told, not_there}

-- cash less open settlement of an account that may be absent, and of the account of a list that has a code
abbrev position_for : Currency → Option AccountState → ℤ
position_for c o = position (figures_for o (Some c))

abbrev position_in : List AccountState → Code → Currency → ℤ
position_in xs code c = position_for c (first_of (has_code code) xs)

-- t has what s has
abbrev Unmoved : State → Code → Currency → State → Type 0
Unmoved s code c t = position_of t code c ≡ position_of s code c +ℤ pos 0

or_same-unmoved : {X : Type 0} (s : State) (code : Code) (c : Currency) (o : Option X) (change : X → State) → ((x : X) → o ≡ Some x → Unmoved s code c (change x)) → Unmoved s code c (or_same s o change)
or_same-unmoved s code c None change unmoved = plus_none (position_of s code c)
or_same-unmoved s code c (Some x) change unmoved = unmoved x refl

-- CALLS ON AN ACCOUNT

-- a change of figures that moves them by delta
module _ (change : Figures → Figures) (delta : ℤ) (adds : (f : Figures) → position (change f) ≡ position f +ℤ delta) where
  account-moves : (a : AccountState) (d c : Currency) → sound a ≡ true → position (figures_in (change_figures change d a) c) ≡ position (figures_in a c) +ℤ cond (is_same c d) delta (pos 0)
  account-moves a d c fine = ap position (figures-with a d c (change (figures_in a d)) fine) ∙ by (is_same c d) refl
    where
      by : (b : Bool) → is_same c d ≡ b → position (cond b (change (figures_in a d)) (figures_in a c)) ≡ position (figures_in a c) +ℤ cond b delta (pos 0)
      by true same = adds (figures_in a d) ∙ ap (λ e. position (figures_in a e) +ℤ delta) (sym (same-currency c d same))
      by false _ = plus_none (position (figures_in a c))

  -- the account of the code that is named, and of any code
  named-moves : (xs : List AccountState) (code : Code) (d c : Currency) → every sound xs ≡ true → is_some (first_of (has_code code) xs) ≡ true →
      position_in (change_first (has_code code) (change_figures change d) xs) code c ≡ position_in xs code c +ℤ cond (is_same c d) delta (pos 0)
  named-moves xs code d c fine held =
      ap (position_for c) (found-changed (has_code code) (change_figures change d) (λ a. refl) xs) ∙ by (first_of (has_code code) xs) refl held
    where
      by : (o : Option AccountState) → first_of (has_code code) xs ≡ o → is_some o ≡ true →
          position_for c (option_map (change_figures change d) o) ≡ position_for c o +ℤ cond (is_same c d) delta (pos 0)
      by None _ held = let z : ◌≡◌ {A = ℕ} 0 1 = cc in absurd (omega arith)
      by (Some a) is _ = account-moves a d c (found-every sound (has_code code) xs a fine is)

  each-moves : (xs : List AccountState) (k code : Code) (d c : Currency) → every sound xs ≡ true → is_some (first_of (has_code k) xs) ≡ true →
      position_in (change_first (has_code k) (change_figures change d) xs) code c ≡ position_in xs code c +ℤ cond (bytes_eq (bytes_of k) (bytes_of code)) (cond (is_same c d) delta (pos 0)) (pos 0)
  each-moves xs k code d c fine held = by (bytes_eq (bytes_of k) (bytes_of code)) refl
    where
      by : (b : Bool) → bytes_eq (bytes_of k) (bytes_of code) ≡ b →
          position_in (change_first (has_code k) (change_figures change d) xs) code c ≡ position_in xs code c +ℤ cond b (cond (is_same c d) delta (pos 0)) (pos 0)
      by true same =
          subst (λ k. is_some (first_of (has_code k) xs) ≡ true → position_in (change_first (has_code k) (change_figures change d) xs) code c ≡ position_in xs code c +ℤ cond (is_same c d) delta (pos 0))
          (sym (same_code k code same)) (named-moves xs code d c fine) held
      by false apart =
          ap (position_for c) (found-unchanged (has_code code) (change_figures change d) (λ a. refl) (has_code k) (other-code k code apart) xs) ∙ plus_none (position_in xs code c)

  pub booked-moves : (s : State) (named currency : List ℕ) → every sound s.accounts ≡ true → (n : Named s named currency) → (code : Code) (c : Currency) →
      position_of (booked s named currency change) code c ≡ position_of s code c +ℤ amount_for code c named currency delta
  booked-moves s named currency fine n code c =
      ap (λ t. position_of t code c) (booked-is s named currency n change)
      ∙ each-moves s.accounts n.key code n.unit c fine (ap (λ o. is_some (held_under s o)) (sym n.is_code) ∙ n.held)
      ∙ ap₂ (λ o q. position_of s code c +ℤ cond (is_code code o) (cond (is_currency c q) delta (pos 0)) (pos 0)) (sym n.is_code) (sym n.is_currency)

-- a change of figures that moves nothing
booked-stays : (change : Figures → Figures) → ((f : Figures) → position (change f) ≡ position f) → (s : State) (named currency : List ℕ) → every sound s.accounts ≡ true → Named s named currency →
    (code : Code) (c : Currency) → Unmoved s code c (booked s named currency change)
booked-stays change keeps s named currency fine found code c =
    booked-moves change (pos 0) (λ f. keeps f ∙ plus_none (position f)) s named currency fine found code c
    ∙ ap (λ x. position_of s code c +ℤ x) (by (is_code code (code_of named)) (is_currency c (currency_of currency)))
  where
    by : (a b : Bool) → cond a (cond b (pos 0) (pos 0)) (pos 0) ≡ pos 0
    by true true = refl
    by true false = refl
    by false b = refl

-- OPENINGS

-- an account is put among others: found by a test that it passes and none of them does, or by one that it fails
module _ (test : AccountState → Bool) (a : AccountState) where
  pub found-inserted : test a ≡ true → (xs : List AccountState) → first_of test xs ≡ None → first_of test (insert_account a xs) ≡ Some a
  found-inserted passes [] none = cond-true _ _ _ passes
  found-inserted passes (b ∷ bs) none = by (is_below (bytes_of a.code) (bytes_of b.code)) (none_found test b bs none).0 (found-inserted passes bs (none_found test b bs none).1)
    where
      by : (t : Bool) → test b ≡ false → first_of test (insert_account a bs) ≡ Some a → first_of test (cond t (a ∷ b ∷ bs) (b ∷ insert_account a bs)) ≡ Some a
      by true _ _ = cond-true _ _ _ passes
      by false other later = cond-false _ _ _ other ∙ later

  pub found-beside : test a ≡ false → (xs : List AccountState) → first_of test (insert_account a xs) ≡ first_of test xs
  found-beside fails [] = cond-false _ _ _ fails
  found-beside fails (b ∷ bs) = by (is_below (bytes_of a.code) (bytes_of b.code)) (found-beside fails bs)
    where
      by : (t : Bool) → first_of test (insert_account a bs) ≡ first_of test bs → first_of test (cond t (a ∷ b ∷ bs) (b ∷ insert_account a bs)) ≡ first_of test (b ∷ bs)
      by true _ = cond-false _ _ _ fails
      by false later = ap (cond (test b) (Some b)) later

-- an account without figures is put where none is held under its code
opening-moves : (xs : List AccountState) (new : AccountState) (code : Code) (c : Currency) → figures_in new c ≡ no_figures → first_of (has_code new.code) xs ≡ None →
    position_in (insert_account new xs) code c ≡ position_in xs code c +ℤ pos 0
opening-moves xs new code c empty none = by (has_code code new) refl
  where
    by : (b : Bool) → has_code code new ≡ b → position_in (insert_account new xs) code c ≡ position_in xs code c +ℤ pos 0
    by true same =
        let unheld : first_of (has_code code) xs ≡ None = subst (λ k. first_of (has_code k) xs ≡ None) (same_code new.code code same) none in
        ap (position_for c) (found-inserted (has_code code) new same xs unheld) ∙ ap position empty ∙ ap (λ o. position_for c o +ℤ pos 0) (sym unheld)
    by false apart = ap (position_for c) (found-beside (has_code code) new apart xs) ∙ plus_none (position_in xs code c)

-- EVERY CALL

-- a call that is not refused moves cash less open settlement by what it pays in
pub moves : (v : Valuation) (s : State) (call : Call) → Invariant v s → refused v s call ≡ None → (code : Code) (c : Currency) → position_of (changed v s call) code c ≡ position_of s code c +ℤ paid_in v s call code c
moves v s (set_rate currency rate) inv granted code c = or_same-unmoved s code c (currency_of currency) _ (λ d _. plus_none _)
moves v s (set_holiday currency flag) inv granted code c = or_same-unmoved s code c (currency_of currency) _ (λ d _. or_same-unmoved s code c (status_of flag) _ (λ status _. plus_none _))
moves v s (open_account named number base level setting priority) inv granted code c =
    let unheld = (none_told (is_held s named) _ _ (none_told (is_none (code_of named)) _ _ (none_told (is_running s) _ _ granted).1).1).0 in
    or_same-unmoved s code c (code_of named) _ (λ k is. or_same-unmoved s code c (currency_of base) _ (λ b _. or_same-unmoved s code c (level_of level) _ (λ l _. or_same-unmoved s code c (setting_of setting) _ (λ d _. or_same-unmoved s code c (priority_of priority) _ (λ p _.
    opening-moves s.accounts (new_account k (nat_abs number) b l d p) code c (new-figures c) (ap (held_under s) (sym is) ∙ not_there (held_under s (code_of named)) unheld))))))
moves v s (set_limits named currency limit excess) inv granted code c =
    booked-stays (with_limits limit excess) (λ f. refl) s named currency inv.sound (named-says s named currency (limits_faults named currency limit excess) granted).0 code c
moves v s (set_margin named currency requirement non_cash) inv granted code c =
    booked-stays (with_margin requirement non_cash) (λ f. refl) s named currency inv.sound (named-says s named currency (margin_faults named currency requirement non_cash) granted).0 code c
moves v s (deposit named currency amount) inv granted code c =
    booked-moves (deposit_booked amount) amount (λ f. omega (arith, ints)) s named currency inv.sound (named-says s named currency (deposit_faults s named currency amount) granted).0 code c
moves v s (settle named currency amount) inv granted code c =
    booked-moves (settlement_booked amount) (neg_ℤ amount) (λ f. omega (arith, ints)) s named currency inv.sound (named-says s named currency (settlement_faults s named currency amount) granted).0 code c
moves v s (call_back named currency amount) inv granted code c =
    booked-moves (callback_booked amount) (neg_ℤ amount) (λ f. omega (arith, ints)) s named currency inv.sound (named-says s named currency (callback_faults v s named currency amount) granted).0 code c
moves v s cut_off inv granted code c = plus_none (position_of s code c)
moves v s (conclude run failed) inv granted code c =
    ap (position_for c) (found-concluded v s run failed inv granted code) ∙ by (account_with s code)
  where
    by : (o : Option AccountState) → position_for c (option_map (concluded_by v (market_of s) (is_carried_out v s failed)) o) ≡ position_for c o +ℤ share_carried_out v s failed o c
    by None = refl
    by (Some a) = position-concluded v (market_of s) (is_carried_out v s failed) (carried-open v s failed) a c
moves v s (ask_standing named) inv granted code c = plus_none (position_of s code c)

-- a conclusion raises an optimization account by its net payment, or by 0 if that is not carried out
pub rises : (v : Valuation) (s : State) (run : Option RunNumbers) (failed : List FailedDebit) → Invariant v s → refused v s (conclude run failed) ≡ None → (number : ℕ) (c : Currency) → joint_position (with_conclusion s failed).accounts number c ≡ joint_position s.accounts number c +ℤ cond (is_carried_out v s failed number c) (net_payment (determined v s) number c) (pos 0)
rises v s run failed inv granted number c =
    ap (λ xs. joint_position xs number c) (accounts-concluded v s run failed inv granted)
    ∙ joint-concluded v (market_of s) (is_carried_out v s failed) (carried-open v s failed) s.accounts number c
