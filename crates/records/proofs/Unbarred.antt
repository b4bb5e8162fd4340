-- A line that nothing bars has a record.
use Rattle.std.proofs.Common.{◌≡◌, ℕ, Bool, true, false, cond, ◌||◌, List, ℤ, nat_abs, Some, None, Option, sym, refl, ◌∙◌, arith}
use Rattle.money.specs.declared.cause.AccountCause.TheVariants.{OutOfRange}
use Rattle.money.specs.declared.cause.Cause.TheVariants.{Account}
use Rattle.money.specs.declared.code.Code.{Code}
use Rattle.money.specs.declared.currency.Currency.{Currency}
use Rattle.money.specs.declared.range.Range.{Range}
use Rattle.money.specs.declared.status.Status.{Status}
use Rattle.money.specs.Codes.{code_of}
use Rattle.money.specs.Currencies.{currency_of}
use Rattle.money.specs.Options.{before}
use Rattle.money.specs.Ranges.{within, rate_range, figure_range, settlement_range, payment_range, optimization_range}
use Rattle.money.specs.Refusals.{Told}
use Rattle.money.specs.Statuses.{status_of}
use Rattle.account.specs.declared.terms.DebitSetting.{DebitSetting}
use Rattle.account.specs.declared.terms.Level.{Level}
use Rattle.account.specs.Checks.{are_figures}
use Rattle.account.specs.Priorities.{priority_of}
use Rattle.account.specs.Terms.{level_of, setting_of}
use Rattle.request.specs.Causes.{first_told, is_none, outside, tells_of}
use Rattle.request.specs.Openings.{opens, terms_of}
use Rattle.history.specs.Bookings.{limits_faults, margin_faults}
use Rattle.history.proofs.Tests.{none_told, is-there, is_within, not-not}
use Rattle.lines.specs.Lines.{Line, rate, holiday, opening, limits, margin, deposit, settlement, callback}
use Rattle.records.specs.declared.record.Record.{Record}
use Rattle.records.specs.declared.record.Record.TheVariants.{Rate, Holiday, Opening, Limits, Margin, Deposit, Settlement, Callback}
use Rattle.records.specs.Records.{name_faults, range_faults, barred_for, of_account, opened_by, of_opening, record_of}
use Rattle.records.proofs.FieldLaws.{not_both}

rate-record : (o : Option Currency) (inside : Bool) (x : ℤ) (c : Currency) → o ≡ Some c → inside ≡ true → before o (λ c. cond inside (Some (Rate c x)) None) ≡ Some (Rate c x)
rate-record o inside x c is in' = rw (is, in')

holiday-record : (o : Option Currency) (p : Option Status) (c : Currency) (status : Status) → o ≡ Some c → p ≡ Some status → before o (λ c. before p (λ status. Some (Holiday c status))) ≡ Some (Holiday c status)
holiday-record o p c status is given = rw (is, given)

on-account : (make : Code → Currency → Record) (o : Option Code) (p : Option Currency) (inside : Bool) (code : Code) (currency : Currency) → o ≡ Some code → p ≡ Some currency → inside ≡ true → before o (λ c. before p (λ k. cond inside (Some (make c k)) None)) ≡ Some (make code currency)
on-account make o p inside code currency first second in' = rw (first, second, in')

-- of a line on an account in a currency, where its figures pass their test
account-record : (make : Code → Currency → Record) (c k : List ℕ) (inside : Bool) (more : List (Bool × Told)) → (first_told more ≡ None → inside ≡ true) → first_told (name_faults c k more) ≡ None → (r : Record) × (of_account make c k inside ≡ Some r)
account-record make c k inside more passes e =
    let p = none_told (is_none (code_of c)) _ _ e in
    let q = none_told (is_none (currency_of k)) _ _ p.1 in
    let code = is-there (code_of c) p.0 in
    let currency = is-there (currency_of k) q.0 in
    let in' = passes q.1 in
    (make code.0 currency.0, on-account make (code_of c) (currency_of k) inside code.0 currency.0 code.1 currency.1 in')

both-inside : (x y : ℤ) (t : Told) → cond (outside figure_range x || outside figure_range y) (Some t) None ≡ None → are_figures x y ≡ true
both-inside x y t e = not-not (are_figures x y) (sym (not_both (within figure_range x) (within figure_range y)) ∙ (none_told _ t None e).0)

inside : (range : Range) (x : ℤ) (t : Told) → cond (outside range x) (Some t) None ≡ None → within range x ≡ true
inside range x t e = is_within range x (none_told _ t None e).0

neither : (a b : Bool) → a || b ≡ false → (a ≡ false) × (b ≡ false)
neither true b e = let z : ◌≡◌ {A = ℕ} 0 1 = cc in absurd (omega arith)
neither false b e = (refl, e)

with-terms : (o : Option Code) (n : ℤ) (b : Option Currency) (l s : ℤ) (p : List ℕ) (code : Code) (base : Currency) (level : Level) (setting : DebitSetting) (order : List Currency) → o ≡ Some code → b ≡ Some base → within optimization_range n ≡ true → level_of l ≡ Some level → setting_of s ≡ Some setting → priority_of p ≡ Some order → before o (λ c. before (terms_of n b l s p) (λ t. Some (Opening (opened_by c t)))) ≡ Some (Opening (opened_by code (opens (nat_abs n) base level setting order)))
with-terms o n b l s p code base level setting order first second in' third fourth last = rw (first, second, in', third, fourth, last)

opening-record : (c : List ℕ) (n : ℤ) (b : List ℕ) (l s : ℤ) (p : List ℕ) → barred_for (opening c n b l s p) ≡ None → (r : Record) × (of_opening c n b l s p ≡ Some r)
opening-record c n b l s p e =
    let e4 = none_told (is_none (code_of c)) _ _ e in
    let e7 = none_told (is_none (currency_of b)) _ _ e4.1 in
    let e8 = none_told (outside optimization_range n) _ _ e7.1 in
    let e9 = none_told (is_none (level_of l) || is_none (setting_of s)) _ _ e8.1 in
    let e10 = none_told (is_none (priority_of p)) _ _ e9.1 in
    let terms = neither (is_none (level_of l)) (is_none (setting_of s)) e9.0 in
    let code = is-there (code_of c) e4.0 in
    let base = is-there (currency_of b) e7.0 in
    let in' = is_within optimization_range n e8.0 in
    let level = is-there (level_of l) terms.0 in
    let setting = is-there (setting_of s) terms.1 in
    let order = is-there (priority_of p) e10.0 in (
      Opening (opened_by code.0 (opens (nat_abs n) base.0 level.0 setting.0 order.0)),
      with-terms (code_of c) n (currency_of b) l s p code.0 base.0 level.0 setting.0 order.0 code.1 base.1 in' level.1 setting.1 order.1,
    )

pub has-record : (l : Line) → barred_for l ≡ None → (r : Record) × (record_of l ≡ Some r)
has-record (rate k x) e =
    let p = none_told (is_none (currency_of k)) _ _ e in
    let q = none_told (outside rate_range x) _ _ p.1 in
    let c = is-there (currency_of k) p.0 in
    let w : within rate_range x ≡ true = is_within rate_range x q.0 in
    (Rate c.0 x, rate-record (currency_of k) (within rate_range x) x c.0 c.1 w)
has-record (holiday k x) e =
    let p = none_told (is_none (currency_of k)) _ _ e in
    let q = none_told (is_none (status_of x)) _ _ p.1 in
    let c = is-there (currency_of k) p.0 in
    let status = is-there (status_of x) q.0 in
    (Holiday c.0 status.0, holiday-record (currency_of k) (status_of x) c.0 status.0 c.1 status.1)
has-record (opening c n b l s p) e = opening-record c n b l s p e
has-record (limits c k x y) e = account-record (λ c k. Limits c k x y) c k (are_figures x y) (limits_faults c k x y) (both-inside x y (tells_of c k (Account OutOfRange))) e
has-record (margin c k x y) e = account-record (λ c k. Margin c k x y) c k (are_figures x y) (margin_faults c k x y) (both-inside x y (tells_of c k (Account OutOfRange))) e
has-record (deposit c k x) e = account-record (λ c k. Deposit c k x) c k (within payment_range x) (range_faults payment_range c k x) (inside payment_range x (tells_of c k (Account OutOfRange))) e
has-record (settlement c k x) e = account-record (λ c k. Settlement c k x) c k (within settlement_range x) (range_faults settlement_range c k x) (inside settlement_range x (tells_of c k (Account OutOfRange))) e
has-record (callback c k x) e = account-record (λ c k. Callback c k x) c k (within payment_range x) (range_faults payment_range c k x) (inside payment_range x (tells_of c k (Account OutOfRange))) e
