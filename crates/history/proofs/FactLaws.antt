-- The facts hold of every book that has a history behind it.
use Rattle.std.proofs.Common.{◌≡◌, ℕ, ◌+◌, ◌≤◌, Bool, true, false, cond, ◌&&◌, eqb, ltb, List, [], ◌∷◌, map, ℤ, pos, ◌+ℤ◌, ◌-ℤ◌, nat_abs, ◌≤ℤ◌, ◌<ℤ◌, is_some, Some, None, Option, sym, refl, ap, ◌∙◌, subst, arith}
use lib.Signed.{lt_z}
use Rattle.std.proofs.lemmas.Int.{ints, clamps}
use Rattle.std.proofs.lemmas.Bool.{and_parts, and_from, and_left, and_right, or_from, or_left, not_from_true, not_from_false, eqb-true, eq-eqb, cond-true}
use Rattle.std.specs.Option.{option_map}
use Rattle.money.specs.declared.code.Code.{Code}
use Rattle.money.specs.declared.currency.Currency.{Currency}
use Rattle.money.specs.Codes.{bytes_of, code_of}
use Rattle.money.specs.Currencies.{currency_of}
use Rattle.money.specs.Options.{every, first_of}
use Rattle.money.specs.Ranges.{payment_range}
use Rattle.money.specs.Refusals.{Told}
use Rattle.money.specs.Statuses.{status_of}
use Rattle.account.specs.declared.account.AccountState.{AccountState}
use Rattle.account.specs.declared.account.Figures.{Figures}
use Rattle.account.specs.declared.terms.Level.{Level}
use Rattle.account.specs.Accounts.{figures_in, new_account, has_code, sound}
use Rattle.account.specs.Amounts.{due_to_house}
use Rattle.account.specs.Priorities.{priority_of}
use Rattle.account.specs.Terms.{level_of, setting_of}
use Rattle.determination.specs.Balances.{room}
use Rattle.determination.specs.Determinations.{total, call, repayment, share}
use Rattle.valuation.specs.Valuations.{Valuation, IsLawful}
use Rattle.money.proofs.EachCurrency.{same-itself}
use Rattle.determination.proofs.DeterminationLaws.{every-determination}
use Rattle.history.specs.declared.optimization.OptimizationAccount.{OptimizationAccount}
use Rattle.account.specs.Bookings.{change_figures, with_limits, with_margin, deposit_booked, settlement_booked, callback_booked}
use Rattle.money.specs.CodeOrders.{is_below}
use Rattle.history.specs.Bookings.{or_same, held_under, is_held, has_number, insert_account, insert_number, is_stopped, callback_faults, change_first, booked, callback_refusal, opening_refusal, opened}
use Rattle.history.specs.Calls.{Call, set_rate, set_holiday, open_account, set_limits, set_margin, deposit, settle, call_back, cut_off, conclude, ask_standing, FailedDebit, RunNumbers}
use Rattle.request.specs.Causes.{is_none, outside}
use Rattle.history.specs.Facts.{holders, CoversDue, CoversExcess, ConclusionFacts, BookFacts, EveryBookFact}
use Rattle.history.specs.Histories.{after, is_carried_out, share_carried_out}
use Rattle.history.specs.Laws.{position_of}
use Rattle.history.specs.Runs.{has_failed, concluded_figures, conclusion_refusal, stopped_by, with_conclusion}
use Rattle.history.specs.States.{State, is_running, market_of, missing_rate, account_with}
use Rattle.history.specs.Steps.{refused, changed, unless, step}
use Rattle.history.proofs.Concluded.{plus_none, concluded_by, figures-concluded, concludes-open, found-concluded, accounts-concluded}
use Rattle.history.proofs.Concluding.{found-ready}
use Rattle.history.proofs.Conservation.{moves}
use Rattle.history.proofs.Found.{found-every, found-changed, found_map, none_found}
use Rattle.history.proofs.Invariant.{Invariant}
use Rattle.history.proofs.Keeping.{every_inserted, granted}
use Rattle.history.proofs.Lists.{every-changed, every_map}
use Rattle.history.proofs.Named.{Named, named-says, booked-is}
use Rattle.history.proofs.Places.{figures-with, same_code}
use Rattle.history.proofs.Tests.{none_told, not_there, both_ways}
use Rattle.history.proofs.Theorem.{invariant-after}

-- HOLDERS OF A CODE

module _ (code : Code) where
  -- a change that leaves the codes leaves the holders
  holders-changed : (test : AccountState → Bool) (change : AccountState → AccountState) → ((a : AccountState) → has_code code (change a) ≡ has_code code a) → (xs : List AccountState) → holders (change_first test change xs) code ≡ holders xs code
  holders-changed test change keeps [] = refl
  holders-changed test change keeps (a ∷ xs) = by (test a) (holders-changed test change keeps xs)
    where
      by : (b : Bool) → holders (change_first test change xs) code ≡ holders xs code → holders (cond b (change a ∷ xs) (a ∷ change_first test change xs)) code ≡ holders (a ∷ xs) code
      by true later = ap (λ h. cond h 1 0 + holders xs code) (keeps a)
      by false later = ap (λ n. cond (has_code code a) 1 0 + n) later

  holders-map : (change : AccountState → AccountState) → ((a : AccountState) → has_code code (change a) ≡ has_code code a) → (xs : List AccountState) → holders (map change xs) code ≡ holders xs code
  holders-map change keeps [] = refl
  holders-map change keeps (a ∷ xs) = let later = holders-map change keeps xs in let here = ap (λ h. cond {A = ℕ} h 1 0) (keeps a) in omega arith

  holders-inserted : (a : AccountState) (xs : List AccountState) → holders (insert_account a xs) code ≡ cond (has_code code a) 1 0 + holders xs code
  holders-inserted a [] = refl
  holders-inserted a (x ∷ xs) = by (is_below (bytes_of a.code) (bytes_of x.code)) (holders-inserted a xs)
    where
      by : (b : Bool) → holders (insert_account a xs) code ≡ cond (has_code code a) 1 0 + holders xs code → holders (cond b (a ∷ x ∷ xs) (x ∷ insert_account a xs)) code ≡ cond (has_code code a) 1 0 + holders (x ∷ xs) code
      by true later = refl
      by false later = omega (arith, later)

  holders-none : (xs : List AccountState) → first_of (has_code code) xs ≡ None → holders xs code ≡ 0
  holders-none [] e = refl
  holders-none (x ∷ xs) e = let n = none_found (has_code code) x xs e in let here = ap (λ h. cond {A = ℕ} h 1 0) n.0 in let later = holders-none xs n.1 in omega (arith, here, later)

-- an account is put where none is held under its code
inserted-once : (a : AccountState) (xs : List AccountState) → first_of (has_code a.code) xs ≡ None → ((code : Code) → holders xs code ≤ 1) → (code : Code) → holders (insert_account a xs) code ≤ 1
inserted-once a xs none once code = subst (λ n. n ≤ 1) (sym (holders-inserted code a xs)) (by (has_code code a) refl)
  where
    by : (b : Bool) → has_code code a ≡ b → (cond b 1 0 + holders xs code) ≤ 1
    by true same = let e = holders-none code xs (subst (λ k. first_of (has_code k) xs ≡ None) (same_code a.code code same) none) in omega (arith, e)
    by false _ = omega (arith, once code)

-- NUMBERS IN USE

some-else : {X : Type 0} (b : Bool) (x : X) (o : Option X) → is_some o ≡ true → is_some (cond b (Some x) o) ≡ true
some-else true x o e = refl
some-else false x o e = e

abbrev new_number : ℕ → OptimizationAccount
new_number n = record { number = n; stopped = false }

number-there : (n : ℕ) (os : List OptimizationAccount) → is_some (first_of (has_number n) (insert_number n os)) ≡ true
number-there n [] = ap (λ b. is_some (cond b (Some (new_number n)) None)) (eq-eqb n n refl)
number-there n (o ∷ os) = by (eqb o.number n) refl (ltb n o.number) (number-there n os)
  where
    by : (b : Bool) → eqb o.number n ≡ b → (l : Bool) → is_some (first_of (has_number n) (insert_number n os)) ≡ true →
        is_some (first_of (has_number n) (cond b (o ∷ os) (cond l (new_number n ∷ o ∷ os) (o ∷ insert_number n os)))) ≡ true
    by true is l later = ap (λ b. is_some (cond b (Some o) (first_of (has_number n) os))) is
    by false is true later = ap (λ b. is_some (cond b (Some (new_number n)) (first_of (has_number n) (o ∷ os)))) (eq-eqb n n refl)
    by false is false later = some-else (eqb o.number n) o _ later

number-stays : (n k : ℕ) (os : List OptimizationAccount) → is_some (first_of (has_number n) os) ≡ true → is_some (first_of (has_number n) (insert_number k os)) ≡ true
number-stays n k [] e = let z : ◌≡◌ {A = ℕ} 0 1 = cc in absurd (omega arith)
number-stays n k (o ∷ os) e = by (eqb o.number k) (ltb k o.number) (found (eqb o.number n) e (number-stays n k os))
  where
    found : (h : Bool) → is_some (cond h (Some o) (first_of (has_number n) os)) ≡ true → (is_some (first_of (has_number n) os) ≡ true → is_some (first_of (has_number n) (insert_number k os)) ≡ true) → is_some (cond h (Some o) (first_of (has_number n) (insert_number k os))) ≡ true
    found true e later = refl
    found false e later = later e

    by : (b l : Bool) → is_some (first_of (has_number n) (o ∷ insert_number k os)) ≡ true → is_some (first_of (has_number n) (cond b (o ∷ os) (cond l (new_number k ∷ o ∷ os) (o ∷ insert_number k os)))) ≡ true
    by true l later = e
    by false true later = some-else (eqb k n) (new_number k) (first_of (has_number n) (o ∷ os)) e
    by false false later = later

some_mapped : {X Y : Type 0} (f : X → Y) (o : Option X) → is_some (option_map f o) ≡ is_some o
some_mapped f None = refl
some_mapped f (Some x) = refl

number-stopped : (fs : List FailedDebit) (n : ℕ) (os : List OptimizationAccount) → is_some (first_of (has_number n) (map (stopped_by fs) os)) ≡ is_some (first_of (has_number n) os)
number-stopped fs n os = ap is_some (found_map (has_number n) (stopped_by fs) os) ∙ some_mapped (stopped_by fs) (first_of (has_number n) os)

-- STOPPED

-- after a conclusion an optimization account that is in use is stopped if it has a failed debit, and else not
stopped-is : (fs : List FailedDebit) (n : ℕ) (os : List OptimizationAccount) → is_some (first_of (λ o. has_number n o && o.stopped) (map (stopped_by fs) os)) ≡ (is_some (first_of (has_number n) os) && has_failed fs n)
stopped-is fs n [] = refl
stopped-is fs n (o ∷ os) = by (eqb o.number n) refl (stopped-is fs n os)
  where
    rest : Option OptimizationAccount
    rest = first_of (λ o. has_number n o && o.stopped) (map (stopped_by fs) os)

    here : (h : Bool) → is_some rest ≡ (is_some (first_of (has_number n) os) && h) → is_some (cond h (Some (stopped_by fs o)) rest) ≡ h
    here true later = refl
    here false later = later ∙ and_right (is_some (first_of (has_number n) os)) false refl

    by : (b : Bool) → eqb o.number n ≡ b → is_some rest ≡ (is_some (first_of (has_number n) os) && has_failed fs n) →
        is_some (cond (b && has_failed fs o.number) (Some (stopped_by fs o)) rest) ≡ (is_some (cond b (Some o) (first_of (has_number n) os)) && has_failed fs n)
    by true is later = ap (λ k. is_some (cond (has_failed fs k) (Some (stopped_by fs o)) rest)) (eqb-true o.number n is) ∙ here (has_failed fs n) later
    by false is later = later

-- WHAT EVERY BOOK KEEPS

abbrev is_used : List OptimizationAccount → AccountState → Bool
is_used os a = is_some (first_of (has_number a.optimization) os)

-- the optimization number of each account is in use, and each code is held once
record Kept (xs : List AccountState) (os : List OptimizationAccount) : Type 0 where
  used : every (is_used os) xs ≡ true
  once : (code : Code) → holders xs code ≤ 1

abbrev Keeps : State → Type 0
Keeps s = Kept s.accounts s.optimizations

or_kept : {X : Type 0} (s : State) (o : Option X) (change : X → State) → Keeps s → ((x : X) → o ≡ Some x → Keeps (change x)) → Keeps (or_same s o change)
or_kept s None change k changed = k
or_kept s (Some x) change k changed = changed x refl

booked-kept : (s : State) (named currency : List ℕ) (change : Figures → Figures) → Keeps s → Keeps (booked s named currency change)
booked-kept s named currency change k =
    or_kept s (code_of named) _ k (λ key _. or_kept s (currency_of currency) _ k (λ c _. record {
      used = every-changed (is_used s.optimizations) (has_code key) (change_figures change c) s.accounts k.used (λ a _ used. used);
      once = λ code. subst (λ n. n ≤ 1) (sym (holders-changed code (has_code key) (change_figures change c) (λ a. refl) s.accounts)) (k.once code);
    }))

-- a code that is opened is not held
unheld : (v : Valuation) (s : State) (named : List ℕ) (number : ℤ) (base : List ℕ) (level setting : ℤ) (priority : List ℕ) → opening_refusal v s named number base level setting priority ≡ None → (code : Code) → code_of named ≡ Some code → account_with s code ≡ None
unheld v s named number base level setting priority e code is =
    let run = none_told (is_running s) _ _ e in
    let form = none_told (is_none (code_of named)) _ _ run.1 in
    let held = none_told (is_held s named) _ _ form.1 in
    not_there (account_with s code) (ap (λ o. is_some (held_under s o)) (sym is) ∙ held.0)

every-weaker : {X : Type 0} (f g : X → Bool) → ((x : X) → f x ≡ true → g x ≡ true) → (xs : List X) → every f xs ≡ true → every g xs ≡ true
every-weaker f g weaker [] all = refl
every-weaker f g weaker (x ∷ xs) all = let p = and_parts (f x) (every f xs) all in and_from _ _ (weaker x p.0) (every-weaker f g weaker xs p.1)

opened-kept : (v : Valuation) (s : State) (named : List ℕ) (number : ℤ) (base : List ℕ) (level setting : ℤ) (priority : List ℕ) → Keeps s → opening_refusal v s named number base level setting priority ≡ None → Keeps (opened s named number base level setting priority)
opened-kept v s named number base level setting priority k e =
    or_kept s (code_of named) _ k (λ code is. or_kept s (currency_of base) _ k (λ b _. or_kept s (level_of level) _ k (λ l _. or_kept s (setting_of setting) _ k (λ d _. or_kept s (priority_of priority) _ k (λ p _.
    let n = nat_abs number in
    let a = new_account code n b l d p in
    let os = insert_number n s.optimizations in
    record {
      used = every_inserted (is_used os) a s.accounts (number-there n s.optimizations) (every-weaker (is_used s.optimizations) (is_used os) (λ x used. number-stays x.optimization n s.optimizations used) s.accounts k.used);
      once = inserted-once a s.accounts (unheld v s named number base level setting priority e code is) k.once;
    })))))

concluded-kept : (v : Valuation) (s : State) (run : Option RunNumbers) (fs : List FailedDebit) → Invariant v s → Keeps s → conclusion_refusal s run fs ≡ None → Keeps (with_conclusion s fs)
concluded-kept v s run fs inv k e =
    let os = map (stopped_by fs) s.optimizations in
    let after = concluded_by v (market_of s) (is_carried_out v s fs) in
    subst (λ xs. Kept xs os) (sym (accounts-concluded v s run fs inv e)) (record {
      used = every_map (is_used s.optimizations) after (is_used os) s.accounts k.used (λ a used. number-stopped fs a.optimization s.optimizations ∙ used);
      once = λ code. subst (λ n. n ≤ 1) (sym (holders-map code after (λ a. refl) s.accounts)) (k.once code);
    })

changed-kept : (v : Valuation) (s : State) (call : Call) → Invariant v s → Keeps s → refused v s call ≡ None → Keeps (changed v s call)
changed-kept v s (set_rate currency rate) inv k e = or_kept s (currency_of currency) _ k (λ c _. k)
changed-kept v s (set_holiday currency flag) inv k e = or_kept s (currency_of currency) _ k (λ c _. or_kept s (status_of flag) _ k (λ status _. k))
changed-kept v s (open_account code number base level setting priority) inv k e = opened-kept v s code number base level setting priority k e
changed-kept v s (set_limits code currency limit excess) inv k e = booked-kept s code currency (with_limits limit excess) k
changed-kept v s (set_margin code currency requirement non_cash) inv k e = booked-kept s code currency (with_margin requirement non_cash) k
changed-kept v s (deposit code currency amount) inv k e = booked-kept s code currency (deposit_booked amount) k
changed-kept v s (settle code currency amount) inv k e = booked-kept s code currency (settlement_booked amount) k
changed-kept v s (call_back code currency amount) inv k e = booked-kept s code currency (callback_booked amount) k
changed-kept v s cut_off inv k e = k
changed-kept v s (conclude run failed) inv k e = concluded-kept v s run failed inv k e
changed-kept v s (ask_standing code) inv k e = k

kept-after : (v : Valuation) (number : ℕ) (history : List Call) → IsLawful v → Keeps (after v number history)
kept-after v number [] lawful = record { used = refl; once = λ code. omega arith }
kept-after v number (call ∷ history) lawful = by (after v number history) (refused v (after v number history) call) refl (invariant-after v number history lawful) (kept-after v number history lawful)
  where
    by : (s : State) (o : Option Told) → refused v s call ≡ o → Invariant v s → Keeps s → Keeps (unless o s (changed v s call))
    by s None e inv k = changed-kept v s call inv k e
    by s (Some told) e inv k = k

-- CALLBACKS

-- what is found after a change of the account that a call names is that account, changed
found-booked : (s : State) (named currency : List ℕ) (change : Figures → Figures) (n : Named s named currency) (code : Code) (b : AccountState) → code_of named ≡ Some code → account_with (booked s named currency change) code ≡ Some b →
    (a : AccountState) × (account_with s n.key ≡ Some a) × (change_figures change n.unit a ≡ b)
found-booked s named currency change n code b is found =
    let key : code ≡ n.key = let p = n.is_code in cc in
    let again : option_map (change_figures change n.unit) (account_with s n.key) ≡ Some b =
    sym (found-changed (has_code n.key) (change_figures change n.unit) (λ a. refl) s.accounts)
    ∙ ap (λ t. account_with t n.key) (sym (booked-is s named currency n change)) ∙ ap (account_with (booked s named currency change)) (sym key) ∙ found in
    by (account_with s n.key) again
  where
    by : (o : Option AccountState) → option_map (change_figures change n.unit) o ≡ Some b → (a : AccountState) × (o ≡ Some a) × (change_figures change n.unit a ≡ b)
    by None e = let z : ◌≡◌ {A = ℕ} 0 1 = cc in absurd (omega arith)
    by (Some a) e = (a, refl, cc)

covers-due : (f : Figures) (w : ℤ) → w ≤ℤ ((f.cash -ℤ f.limit) -ℤ due_to_house f) → (f.limit +ℤ due_to_house f) ≤ℤ (f.cash -ℤ w)
covers-due f w free = omega (arith, ints, clamps)

callback-covers-due : (v : Valuation) (s : State) (named currency : List ℕ) (w : ℤ) → Invariant v s → callback_refusal v s named currency w ≡ None →
    (code : Code) (b : AccountState) (c : Currency) → code_of named ≡ Some code → currency_of currency ≡ Some c → account_with (booked s named currency (callback_booked w)) code ≡ Some b → CoversDue b c
callback-covers-due v s named currency w inv e code b c is_code is_currency found =
    let g = granted v s named currency w e in
    let n = g.0 in
    let unit : n.unit ≡ c = let p = n.is_currency in cc in
    let p = found-booked s named currency (callback_booked w) n code b is_code found in
    let a = p.0 in
    let fine = found-every sound (has_code n.key) s.accounts a inv.sound p.1 in
    let figures = figures-with a n.unit n.unit (callback_booked w (figures_in a n.unit)) fine ∙ cond-true _ _ _ (same-itself n.unit) in
    subst (λ c. CoversDue b c) unit (subst (λ b. CoversDue b n.unit) p.2 (subst (λ f. (f.limit +ℤ due_to_house f) ≤ℤ f.cash) (sym figures) (covers-due (figures_in a n.unit) w (g.1 a p.1).free)))

not_stopped : (v : Valuation) (s : State) (named currency : List ℕ) (w : ℤ) → callback_refusal v s named currency w ≡ None → is_stopped s (held_under s (code_of named)) ≡ false
not_stopped v s named currency w e =
    let n = named-says s named currency (callback_faults v s named currency w) e in
    let range = none_told (outside payment_range w) _ _ n.1 in
    let rate = none_told (is_some (missing_rate s)) _ _ range.1 in
    (none_told (is_stopped s (held_under s (code_of named))) _ _ rate.1).0

-- CONCLUSIONS

leaves-excess : (level : Level) (f : Figures) (called repaid : ℤ) → called ≡ pos 0 → repaid ≤ℤ room level f → (concluded_figures level true called repaid f).excess ≤ℤ (concluded_figures level true called repaid f).cash
leaves-excess level f called repaid none within = omega (arith, ints, clamps)

no-debit : (x : ℤ) → x ≤ℤ pos 0 → lt_z (pos 0) x ≡ false
no-debit x e = grind (arith, ints)

a-debit : (x : ℤ) → pos 0 <ℤ x → lt_z (pos 0) x ≡ true
a-debit x e = grind (arith, ints)

module _ (v : Valuation) (s : State) (run : Option RunNumbers) (fs : List FailedDebit) (lawful : IsLawful v) (inv : Invariant v s) (k : Keeps s) (e : conclusion_refusal s run fs ≡ None) where
  abbrev out : ℕ → Currency → Bool
  out = is_carried_out v s fs

  -- an account that is found again is the one that was concluded
  again : (code : Code) (a b : AccountState) → account_with s code ≡ Some a → account_with (with_conclusion s fs) code ≡ Some b → concluded_by v (market_of s) out a ≡ b
  again code a b here there =
      let found : account_with (with_conclusion s fs) code ≡ Some (concluded_by v (market_of s) out a) = found-concluded v s run fs inv e code ∙ ap (option_map (concluded_by v (market_of s) out)) here in
      cc

  carried-figures : (a : AccountState) (c : Currency) → out a.optimization c ≡ true → figures_in (concluded_by v (market_of s) out a) c ≡ concluded_figures a.level true (call v (market_of s) a c) (repayment v (market_of s) a c) (figures_in a c)
  carried-figures a c is = figures-concluded v (market_of s) a c out ∙ ap (λ b. concluded_figures a.level b (call v (market_of s) a c) (repayment v (market_of s) a c) (figures_in a c)) is

  -- what is not carried out moves nothing
  stays : (code : Code) (a : AccountState) (c : Currency) → account_with s code ≡ Some a → out a.optimization c ≡ false → position_of (with_conclusion s fs) code c ≡ position_of s code c
  stays code a c here not-out =
      moves v s (conclude run fs) inv e code c ∙ ap (λ o. position_of s code c +ℤ share_carried_out v s fs o c) here
      ∙ ap (λ b. position_of s code c +ℤ cond b (share v (market_of s) a c) (pos 0)) not-out ∙ sym (plus_none (position_of s code c))

  in_use : (code : Code) (a : AccountState) → account_with (with_conclusion s fs) code ≡ Some a → is_some (first_of (has_number a.optimization) s.optimizations) ≡ true
  in_use code a found =
      let kept = concluded-kept v s run fs inv k e in
      sym (number-stopped fs a.optimization s.optimizations) ∙ found-every (is_used (with_conclusion s fs).optimizations) (has_code code) (with_conclusion s fs).accounts a kept.used found

  conclusion-facts : ConclusionFacts v s fs (with_conclusion s fs)
  conclusion-facts = record {
    excess_left = λ code a b c here there repaid is.
        let law = (found-ready every-determination v s code a lawful inv (inv.tied (concludes-open v s run fs inv e)) here).law in
        subst (λ b. CoversExcess b c) (again code a b here there) (subst (λ f. f.excess ≤ℤ f.cash) (sym (carried-figures a c is))
        (leaves-excess a.level (figures_in a c) (call v (market_of s) a c) (repayment v (market_of s) a c) (law.never_both c c repaid) (law.leaves_room c repaid)));
    credit_stays = λ code a c here failed credit. stays code a c here (and_right _ _ (or_from _ _ (no-debit _ credit) (not_from_true _ failed)));
    failed_stays = λ code a c here failed. stays code a c here (and_left _ _ (and_right ((market_of s).is_open c) _ (not_from_true _ failed)));
    debit_paid = λ code a b c here there opened unfailed debit.
        subst (λ b. (figures_in b c).settlement ≡ pos 0) (again code a b here there)
        (ap (λ f. f.settlement) (carried-figures a c (and_from _ _ (and_from _ _ opened (not_from_false _ unfailed)) (or_left _ _ (a-debit _ debit)))));
    stops = λ named currency amount code a is found failed granted.
        let stopped : is_stopped (with_conclusion s fs) (Some a) ≡ true = stopped-is fs a.optimization s.optimizations ∙ and_from _ _ (in_use code a found) failed in
        let not : is_stopped (with_conclusion s fs) (Some a) ≡ false = ap (is_stopped (with_conclusion s fs)) (sym (ap (held_under (with_conclusion s fs)) is ∙ found)) ∙ not_stopped v (with_conclusion s fs) named currency amount granted in
        both_ways _ stopped not;
    resumes = λ code a found unfailed. stopped-is fs a.optimization s.optimizations ∙ and_right _ _ unfailed;
  }

-- THE FACTS

facts : (v : Valuation) (s : State) → IsLawful v → Invariant v s → Keeps s → BookFacts v s
unfolding total
facts v s lawful inv k = record {
  refused_stays = λ call told e. ap (λ o. unless o s (changed v s call)) e;
  called_back = λ named currency amount code a c e is_code is_currency found.
      let performed : step v s (call_back named currency amount) ≡ booked s named currency (callback_booked amount) = ap (λ o. unless o s (booked s named currency (callback_booked amount))) e in
      callback-covers-due v s named currency amount inv e code a c is_code is_currency (ap (λ t. account_with t code) (sym performed) ∙ found);
  concluded = λ run failed e. subst (ConclusionFacts v s failed) (sym (ap (λ o. unless o s (with_conclusion s failed)) e)) (conclusion-facts v s run failed lawful inv k e);
  opened_once = λ named number base level setting priority code a is held e. let none = unheld v s named number base level setting priority e code is in let z : ◌≡◌ {A = ℕ} 0 1 = cc in omega arith;
  held_once = k.once;
  shut_counts = λ a is_open. refl;
}

pub every-book-fact : EveryBookFact
every-book-fact v number history s lawful reached =
    subst (BookFacts v) (sym reached) (facts v (after v number history) lawful (invariant-after v number history lawful) (kept-after v number history lawful))
