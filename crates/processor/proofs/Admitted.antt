-- A line that the book performs is admitted.
use Rattle.std.proofs.Common.{◌≡◌, ℕ, Bool, false, cond, not, ◌||◌, List, ℤ, Some, None, Option, refl, arith}
use Rattle.money.specs.Codes.{code_of}
use Rattle.money.specs.Currencies.{currency_of}
use Rattle.money.specs.Ranges.{settlement_range, payment_range, optimization_range}
use Rattle.money.specs.Refusals.{Told}
use Rattle.account.specs.Priorities.{priority_of}
use Rattle.account.specs.Terms.{level_of, setting_of}
use Rattle.request.specs.Causes.{first_told, is_none, outside}
use Rattle.valuation.specs.Valuations.{Valuation}
use Rattle.history.specs.Bookings.{is_held, opening_refusal, account_faults, limits_faults, margin_faults, deposit_faults, settlement_faults, callback_faults}
use Rattle.history.specs.States.{State, is_running}
use Rattle.history.specs.Steps.{refused}
use Rattle.history.proofs.Tests.{none_told}
use Rattle.lines.specs.Lines.{Line, rate, holiday, opening, limits, margin, deposit, settlement, callback, parsed}
use Rattle.records.specs.declared.record.Record.{Record}
use Rattle.records.specs.Admissions.{admission, Admits}
use Rattle.records.specs.Records.{name_faults, range_faults, opening_faults, barred_for}
use Rattle.records.proofs.AdmissionLaws.{admission-says}
use Rattle.records.proofs.Unbarred.{has-record}
use Rattle.processor.specs.Performances.{call_of, answer_to, answer}

none_more : (test : Bool) (t : Told) (others : Option Told) → test ≡ false → others ≡ None → cond test (Some t) others ≡ None
none_more test t others off rest = rw (off, rest)

-- of a call on an account in a currency: neither its code nor its currency bars the line, and its figures do not either
account-not-barred : (s : State) (c k : List ℕ) (more own : List (Bool × Told)) → (first_told more ≡ None → first_told own ≡ None) → account_faults s c k more ≡ None → first_told (name_faults c k own) ≡ None
account-not-barred s c k more own passes e =
    let e2 = none_told (is_running s) _ _ e in
    let e4 = none_told (is_none (code_of c)) _ _ e2.1 in
    let e6 = none_told (not (is_held s c)) _ _ e4.1 in
    let e7 = none_told (is_none (currency_of k)) _ _ e6.1 in
    none_more _ _ _ e4.0 (none_more _ _ _ e7.0 (passes e7.1))

opening-not-barred : (v : Valuation) (s : State) (c : List ℕ) (n : ℤ) (b : List ℕ) (l d : ℤ) (p : List ℕ) → opening_refusal v s c n b l d p ≡ None → first_told (opening_faults c n b l d p) ≡ None
opening-not-barred v s c n b l d p e =
    let e2 = none_told (is_running s) _ _ e in
    let e4 = none_told (is_none (code_of c)) _ _ e2.1 in
    let e5 = none_told (is_held s c) _ _ e4.1 in
    let e7 = none_told (is_none (currency_of b)) _ _ e5.1 in
    let e8 = none_told (outside optimization_range n) _ _ e7.1 in
    let e9 = none_told (is_none (level_of l) || is_none (setting_of d)) _ _ e8.1 in
    let e10 = none_told (is_none (priority_of p)) _ _ e9.1 in
    none_more _ _ _ e4.0 (none_more _ _ _ e7.0 (none_more _ _ _ e8.0 (none_more _ _ _ e9.0 (none_more _ _ _ e10.0 refl))))

-- the first test alone
first_alone : (test : Bool) (t : Told) (others : Option Told) → cond test (Some t) others ≡ None → cond test (Some t) None ≡ None
first_alone test t others e = none_more test t None (none_told test t others e).0 refl

-- what the book does not refuse, nothing in the line bars
not-barred : (v : Valuation) (s : State) (l : Line) → refused v s (call_of l) ≡ None → barred_for l ≡ None
not-barred v s (rate k x) e = (none_told (is_running s) _ _ e).1
not-barred v s (holiday k x) e = (none_told (is_running s) _ _ e).1
not-barred v s (opening c n b l d p) e = opening-not-barred v s c n b l d p e
not-barred v s (limits c k x y) e = account-not-barred s c k (limits_faults c k x y) (limits_faults c k x y) (λ h. h) e
not-barred v s (margin c k x y) e = account-not-barred s c k (margin_faults c k x y) (margin_faults c k x y) (λ h. h) e
not-barred v s (deposit c k x) e = account-not-barred s c k (deposit_faults s c k x) (range_faults payment_range c k x) (first_alone (outside payment_range x) _ _) e
not-barred v s (settlement c k x) e = account-not-barred s c k (settlement_faults s c k x) (range_faults settlement_range c k x) (first_alone (outside settlement_range x) _ _) e
not-barred v s (callback c k x) e = account-not-barred s c k (callback_faults v s c k x) (range_faults payment_range c k x) (first_alone (outside payment_range x) _ _) e

admitted : (v : Valuation) (s : State) (line : List ℕ) (o : Option Line) → parsed line ≡ o → answer_to v s o ≡ None → (r : Record) × (admission line ≡ Some r)
admitted v s line None is e = let z : ◌≡◌ {A = ℕ} 0 1 = cc in absurd (omega arith)
admitted v s line (Some l) is e =
    let r = has-record l (not-barred v s l e) in
    (r.0, rw is r.1)

pub admits : (v : Valuation) (s : State) (line : List ℕ) → answer v s line ≡ None → (x : Record) × Admits line x
admits v s line e =
    let r = admitted v s line (parsed line) refl e in
    (r.0, admission-says line r.0 r.1)
