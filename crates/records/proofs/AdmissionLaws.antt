-- A line is admitted just where a sound record is written so.
use Rattle.std.proofs.Common.{◌≡◌, ℕ, ◌≤◌, Bool, true, ◌&&◌, List, [], ◌∷◌, length, ℤ, pos, Some, Ok, Err, Option, Result, sym, refl, ap, ◌∙◌, subst, arith, length-append}
use Rattle.std.proofs.lemmas.Int.{ints}
use Rattle.std.proofs.lemmas.Bool.{and_parts, and_from}
use Rattle.std.specs.Result.{result_ok}
use Rattle.std.specs.Fmt.{signed_decimal}
use Rattle.money.specs.declared.code.Code.{Code}
use Rattle.money.specs.declared.currency.Currency.{Currency}
use Rattle.money.specs.Codes.{code_of, shown_code}
use Rattle.money.specs.Currencies.{letters, currency_of}
use Rattle.money.specs.Ranges.{within, rate_range, figure_range, settlement_range, payment_range, optimization_range}
use Rattle.money.specs.Statuses.{flag_of, status_of}
use Rattle.money.proofs.CodeReadings.{code-says, code_reads, code-eight}
use Rattle.money.proofs.Readings.{currency-says, currency-reads, letters-three, status-reads, status-says}
use Rattle.account.specs.Checks.{are_figures}
use Rattle.account.specs.Priorities.{names_each_once, letters_all, priority_of}
use Rattle.account.specs.Terms.{level_number, level_of, setting_number, setting_of}
use Rattle.account.proofs.PriorityReadings.{priority-says, priority-reads, priority-long}
use Rattle.account.proofs.TermReadings.{level-says, level-reads, setting-says, setting-reads}
use Rattle.request.specs.Openings.{Opened, terms_of}
use Rattle.text.proofs.CutLaws.{some_same}
use Rattle.text.proofs.Spellings.{before-some, if-then}
use Rattle.lines.specs.declared.fault.SheetFault.{SheetFault}
use Rattle.records.specs.declared.record.Record.{Record}
use Rattle.records.specs.declared.record.Opening.{Opening as OfOpening}
use Rattle.records.specs.declared.record.Record.TheVariants.{Rate, Holiday, Opening, Limits, Margin, Deposit, Settlement, Callback}
use Rattle.records.specs.Admissions.{admission, Admits, Exactly}
use Rattle.lines.specs.Lines.{Line, rate, holiday, opening, limits, margin, deposit, settlement, callback, ended, written, Form, parsed}
use Rattle.records.specs.Records.{line_of, well_formed, sound, of_account, record_of}
use Rattle.records.proofs.FieldLaws.{Fielded, letters-word, code-word, order-word, figure-fielded, flag-fielded, level-fielded, setting-fielded, optimization-natural}
use Rattle.lines.proofs.Forms.{form-says, form-reads}

-- A LINE, THEN ITS RECORD

-- a record on an account in a currency
record OnAccount (make : Code → Currency → Record) (c k : List ℕ) (inside : Bool) (r : Record) : Type 0 where
  code : Code
  currency : Currency
  formed : well_formed code ≡ true
  passed : inside ≡ true
  first : shown_code code ≡ c
  second : letters currency ≡ k
  is : make code currency ≡ r

account-says : (make : Code → Currency → Record) (c k : List ℕ) (inside : Bool) (r : Record) → of_account make c k inside ≡ Some r → OnAccount make c k inside r
account-says make c k inside r e =
    let p = before-some (code_of c) _ r e in
    let q = before-some (currency_of k) _ r p.2 in
    let i = if-then inside (Some (make p.0 q.0)) r q.2 in
    let s = code-says c p.0 p.1 in
    record { code = p.0; currency = q.0; formed = s.0; passed = i.0; first = s.1; second = currency-says k q.0 q.1; is = some_same i.1 }

record Given (number : ℤ) (base : Option Currency) (level setting : ℤ) (priority : List ℕ) (t : Opened) : Type 0 where
  ranged : within optimization_range (pos t.number) ≡ true
  once : names_each_once t.priority ≡ true
  first : pos t.number ≡ number
  second : base ≡ Some t.base
  third : level_number t.level ≡ level
  fourth : setting_number t.setting ≡ setting
  last : letters_all t.priority ≡ priority

-- terms say what their fields are
terms-says : (number : ℤ) (base : Option Currency) (level setting : ℤ) (priority : List ℕ) (t : Opened) → terms_of number base level setting priority ≡ Some t → Given number base level setting priority t
terms-says number base level setting priority t e =
    let b = before-some base _ t e in
    let n = if-then (within optimization_range number) _ t b.2 in
    let l = before-some (level_of level) _ t n.1 in
    let d = before-some (setting_of setting) _ t l.2 in
    let p = before-some (priority_of priority) _ t d.2 in
    let s = priority-says priority p.0 p.1 in
    let whole = optimization-natural number n.0 in
    subst (Given number base level setting priority) (some_same p.2) (record {
      ranged = subst (λ x. within optimization_range x ≡ true) whole n.0;
      once = s.0;
      first = sym whole;
      second = b.1;
      third = level-says level l.0 l.1;
      fourth = setting-says setting d.0 d.1;
      last = s.1;
    })

record-says : (l : Line) (r : Record) → record_of l ≡ Some r → (sound r ≡ true) × (line_of r ≡ l)
record-says (rate k x) r e =
    let p = before-some (currency_of k) _ r e in
    let q = if-then (within rate_range x) (Some (Rate p.0 x)) r p.2 in
    subst (λ s. (sound s ≡ true) × (line_of s ≡ rate k x)) (some_same q.1) (q.0, ap (λ t. rate t x) (currency-says k p.0 p.1))
record-says (holiday k x) r e =
    let p = before-some (currency_of k) _ r e in
    let q = before-some (status_of x) _ r p.2 in
    subst (λ s. (sound s ≡ true) × (line_of s ≡ holiday k x)) (some_same q.2)
    (refl, (λ i. holiday (currency-says k p.0 p.1 i) (status-says x q.0 q.1 i)))
record-says (opening c n b l s p) r e =
    let a = before-some (code_of c) _ r e in
    let t = before-some (terms_of n (currency_of b) l s p) _ r a.2 in
    let code = code-says c a.0 a.1 in
    let g = terms-says n (currency_of b) l s p t.0 t.1 in
    let base = currency-says b t.0.base g.second in
    subst (λ x. (sound x ≡ true) × (line_of x ≡ opening c n b l s p)) (some_same t.2)
    (and_from _ _ (and_from _ _ code.0 g.ranged) g.once, (λ i. opening (code.1 i) (g.first i) (base i) (g.third i) (g.fourth i) (g.last i)))
record-says (limits c k x y) r e =
    let a = account-says _ c k (are_figures x y) r e in
    subst (λ s. (sound s ≡ true) × (line_of s ≡ limits c k x y)) a.is (and_from _ _ a.formed a.passed, (λ i. limits (a.first i) (a.second i) x y))
record-says (margin c k x y) r e =
    let a = account-says _ c k (are_figures x y) r e in
    subst (λ s. (sound s ≡ true) × (line_of s ≡ margin c k x y)) a.is (and_from _ _ a.formed a.passed, (λ i. margin (a.first i) (a.second i) x y))
record-says (deposit c k x) r e =
    let a = account-says _ c k (within payment_range x) r e in
    subst (λ s. (sound s ≡ true) × (line_of s ≡ deposit c k x)) a.is (and_from _ _ a.formed a.passed, (λ i. deposit (a.first i) (a.second i) x))
record-says (settlement c k x) r e =
    let a = account-says _ c k (within settlement_range x) r e in
    subst (λ s. (sound s ≡ true) × (line_of s ≡ settlement c k x)) a.is (and_from _ _ a.formed a.passed, (λ i. settlement (a.first i) (a.second i) x))
record-says (callback c k x) r e =
    let a = account-says _ c k (within payment_range x) r e in
    subst (λ s. (sound s ≡ true) × (line_of s ≡ callback c k x)) a.is (and_from _ _ a.formed a.passed, (λ i. callback (a.first i) (a.second i) x))

-- A RECORD, THEN ITS LINE

account-reads : (make : Code → Currency → Record) (code : Code) (c : Currency) (inside : Bool) → well_formed code && inside ≡ true → of_account make (shown_code code) (letters c) inside ≡ Some (make code c)
account-reads make code c inside s = let p = and_parts (well_formed code) inside s in rw (code_reads code p.0, currency-reads c, p.1)

opening-reads : (o : OfOpening) → sound (Opening o) ≡ true → record_of (line_of (Opening o)) ≡ Some (Opening o)
opening-reads o s =
    let p = and_parts (well_formed o.code && within optimization_range (pos o.number)) (names_each_once o.priority) s in
    let q = and_parts (well_formed o.code) (within optimization_range (pos o.number)) p.0 in
    rw (code_reads o.code q.0, currency-reads o.base, q.1, level-reads o.level, setting-reads o.setting, priority-reads o.priority p.1)

record-reads : (r : Record) → sound r ≡ true → record_of (line_of r) ≡ Some r
record-reads (Rate c x) s = rw (currency-reads c, s)
record-reads (Holiday c status) s = rw (currency-reads c, status-reads status)
record-reads (Opening o) s = opening-reads o s
record-reads (Limits code c x y) s = account-reads (λ code c. Limits code c x y) code c (are_figures x y) s
record-reads (Margin code c x y) s = account-reads (λ code c. Margin code c x y) code c (are_figures x y) s
record-reads (Deposit code c x) s = account-reads (λ code c. Deposit code c x) code c (within payment_range x) s
record-reads (Settlement code c x) s = account-reads (λ code c. Settlement code c x) code c (within settlement_range x) s
record-reads (Callback code c x) s = account-reads (λ code c. Callback code c x) code c (within payment_range x) s

-- THE FORM OF ITS LINE

-- figures of the ranges that there are
payment-fielded : (x : ℤ) → within payment_range x ≡ true → Fielded x
payment-fielded x e = figure-fielded payment_range x (omega (arith, ints)) (omega (arith, ints)) e

settlement-fielded : (x : ℤ) → within settlement_range x ≡ true → Fielded x
settlement-fielded x e = figure-fielded settlement_range x (omega (arith, ints)) (omega (arith, ints)) e

both-fielded : (x y : ℤ) → are_figures x y ≡ true → Fielded x × Fielded y
both-fielded x y e =
    let p = and_parts (within figure_range x) (within figure_range y) e in
    (figure-fielded figure_range x (omega (arith, ints)) (omega (arith, ints)) p.0, figure-fielded figure_range y (omega (arith, ints)) (omega (arith, ints)) p.1)

-- a line of a currency and a number is short enough, whatever its letter
currency-short : (l : ℕ) (k : List ℕ) (x : ℤ) → length k ≡ 3 → Fielded x → length (l ∷ ended (k ∷ signed_decimal x ∷ [])) ≤ 129
currency-short l k x three f = simp length-append (omega (arith, f.1))

-- of a code, a currency and a number
amount-short : (l : ℕ) (c k : List ℕ) (x : ℤ) → length c ≡ 8 → length k ≡ 3 → Fielded x → length (l ∷ ended (c ∷ k ∷ signed_decimal x ∷ [])) ≤ 129
amount-short l c k x eight three f = simp length-append (omega (arith, f.1))

-- of a code, a currency and two numbers
figures-short : (l : ℕ) (c k : List ℕ) (x y : ℤ) → length c ≡ 8 → length k ≡ 3 → Fielded x → Fielded y → length (l ∷ ended (c ∷ k ∷ signed_decimal x ∷ signed_decimal y ∷ [])) ≤ 129
figures-short l c k x y eight three f g = simp length-append (omega (arith, f.1, g.1))

-- and an opening is, while the currencies are few
opening-short : (l : ℕ) (c b p : List ℕ) (n x y : ℤ) → length c ≡ 8 → length b ≡ 3 → length p ≤ 60 → Fielded n → Fielded x → Fielded y → length (l ∷ ended (c ∷ signed_decimal n ∷ b ∷ signed_decimal x ∷ signed_decimal y ∷ p ∷ [])) ≤ 129
opening-short l c b p n x y eight three few f g h = simp length-append (omega (arith, f.1, g.1, h.1))

opening-form : (o : OfOpening) → sound (Opening o) ≡ true → Form (written (line_of (Opening o))) (line_of (Opening o))
opening-form o s =
    let p = and_parts (well_formed o.code && within optimization_range (pos o.number)) (names_each_once o.priority) s in
    let q = and_parts (well_formed o.code) (within optimization_range (pos o.number)) p.0 in
    let number = figure-fielded optimization_range (pos o.number) (omega (arith, ints)) (omega (arith, ints)) q.1 in
    let l = level-fielded o.level in
    let d = setting-fielded o.setting in
    let few : length (letters_all o.priority) ≤ 60 = omega (arith, priority-long o.priority p.1) in
    record {
      good = (code-word o.code q.0, number.0, letters-word o.base, l.0, d.0, order-word o.priority);
      long = opening-short 65 _ _ _ (pos o.number) _ _ (code-eight o.code q.0) (letters-three o.base) few number l d;
      text = refl;
    }

sound-form : (r : Record) → sound r ≡ true → Form (written (line_of r)) (line_of r)
sound-form (Rate c x) s =
    let f = figure-fielded rate_range x (omega (arith, ints)) (omega (arith, ints)) s in
    record { good = (letters-word c, f.0); long = currency-short 82 _ x (letters-three c) f; text = refl }
sound-form (Holiday c status) s =
    let f = flag-fielded status in
    record { good = (letters-word c, f.0); long = currency-short 72 _ (flag_of status) (letters-three c) f; text = refl }
sound-form (Opening o) s = opening-form o s
sound-form (Limits code c x y) s =
    let p = and_parts (well_formed code) (are_figures x y) s in
    let f = both-fielded x y p.1 in
    record { good = (code-word code p.0, letters-word c, f.0.0, f.1.0); long = figures-short 76 _ _ x y (code-eight code p.0) (letters-three c) f.0 f.1; text = refl }
sound-form (Margin code c x y) s =
    let p = and_parts (well_formed code) (are_figures x y) s in
    let f = both-fielded x y p.1 in
    record { good = (code-word code p.0, letters-word c, f.0.0, f.1.0); long = figures-short 77 _ _ x y (code-eight code p.0) (letters-three c) f.0 f.1; text = refl }
sound-form (Deposit code c x) s =
    let p = and_parts (well_formed code) (within payment_range x) s in
    let f = payment-fielded x p.1 in
    record { good = (code-word code p.0, letters-word c, f.0); long = amount-short 68 _ _ x (code-eight code p.0) (letters-three c) f; text = refl }
sound-form (Settlement code c x) s =
    let p = and_parts (well_formed code) (within settlement_range x) s in
    let f = settlement-fielded x p.1 in
    record { good = (code-word code p.0, letters-word c, f.0); long = amount-short 83 _ _ x (code-eight code p.0) (letters-three c) f; text = refl }
sound-form (Callback code c x) s =
    let p = and_parts (well_formed code) (within payment_range x) s in
    let f = payment-fielded x p.1 in
    record { good = (code-word code p.0, letters-word c, f.0); long = amount-short 66 _ _ x (code-eight code p.0) (letters-three c) f; text = refl }

-- THE WHOLE WAY

pub admission-says : (bytes : List ℕ) (r : Record) → admission bytes ≡ Some r → Admits bytes r
admission-says bytes r e =
    let p = before-some (parsed bytes) record_of r e in
    let f = form-says bytes p.0 p.1 in
    let t = record-says p.0 r p.2 in
    (t.0, ap written t.1 ∙ f.text)

pub admission-reads : (bytes : List ℕ) (r : Record) → Admits bytes r → admission bytes ≡ Some r
admission-reads bytes r a =
    subst (λ b. admission b ≡ Some r) a.1
    (rw (form-reads (written (line_of r)) (line_of r) (sound-form r a.0)) (record-reads r a.0))

pub exactly : (bytes : List ℕ) (r : Result Record SheetFault) → result_ok r ≡ admission bytes → Exactly bytes r
exactly bytes (Ok x) is = admission-says bytes x (sym is)
exactly bytes (Err f) is = λ x a. let h = admission-reads bytes x a in let z : ◌≡◌ {A = ℕ} 0 1 = cc in omega arith
