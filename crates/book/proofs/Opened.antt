-- What an opening is refused for, stage by stage, and what it makes.
use Rattle.std.proofs.Common.{◌≡◌, ℕ, Bool, true, false, cond, not, List, [], ◌∷◌, ◌++◌, ℤ, nat_abs, IfOk, Some, None, Err, Option, Result, sym, refl, ap, ◌∙◌, subst, arith}
use Rattle.money.specs.declared.code.Code.{Code}
use Rattle.money.specs.declared.currency.Currency.{Currency}
use Rattle.money.specs.Options.{before}
use Rattle.money.specs.Ranges.{within, optimization_range}
use Rattle.money.specs.Refusals.{Told, refusal_of}
use Rattle.account.specs.declared.account.AccountState.{AccountState}
use Rattle.account.specs.Accounts.{new_account}
use Rattle.account.specs.Priorities.{priority_of}
use Rattle.account.specs.Terms.{level_of, setting_of}
use Rattle.request.specs.declared.fault.BookFault.{BookFault}
use Rattle.request.specs.Causes.{first_told}
use Rattle.request.specs.Faults.{told}
use Rattle.request.specs.Openings.{Opened, opens, terms_faults, terms_of}
use Rattle.valuation.specs.Valuations.{Valuation}
use Rattle.history.specs.Bookings.{admits_base, is_full}
use Rattle.history.specs.States.{State}
use Rattle.history.proofs.Tests.{none_told}
use Rattle.book.specs.Openings.{code_faults, room_faults, opening_faults, IsFree, Opens}

-- of two lists of tests the first is told, and else the second
abbrev pub either : Option Told → Option Told → Option Told
either None later = later
either (Some t) later = Some t

pub told-joined : (xs ys : List (Bool × Told)) → first_told (xs ++ ys) ≡ either (first_told xs) (first_told ys)
told-joined [] ys = refl
told-joined (x ∷ xs) ys = by x.0 (told-joined xs ys)
  where
    by : (b : Bool) → first_told (xs ++ ys) ≡ either (first_told xs) (first_told ys) → cond b (Some x.1) (first_told (xs ++ ys)) ≡ either (cond b (Some x.1) (first_told xs)) (first_told ys)
    by true later = refl
    by false later = later

before-some : {X Y : Type 0} (o : Option X) (f : X → Option Y) (y : Y) → before o f ≡ Some y → (x : X) × (o ≡ Some x) × (f x ≡ Some y)
before-some None f y e = let z : ◌≡◌ {A = ℕ} 0 1 = cc in absurd (omega arith)
before-some (Some x) f y e = (x, refl, e)

if-so : {X : Type 0} (b : Bool) (o : Option X) (x : X) → cond b o None ≡ Some x → o ≡ Some x
if-so true o x e = e
if-so false o x e = let z : ◌≡◌ {A = ℕ} 0 1 = cc in absurd (omega arith)

-- the fields that terms were read from
pub record ReadFrom (number : ℤ) (base : Option Currency) (level setting : ℤ) (priority : List ℕ) (t : Opened) : Type 0 where
  pub is_number : nat_abs number ≡ t.number
  pub is_base : base ≡ Some t.base
  pub is_level : level_of level ≡ Some t.level
  pub is_setting : setting_of setting ≡ Some t.setting
  pub is_priority : priority_of priority ≡ Some t.priority

pub read-from : (number : ℤ) (base : Option Currency) (level setting : ℤ) (priority : List ℕ) (t : Opened) → Some t ≡ terms_of number base level setting priority → ReadFrom number base level setting priority t
read-from number base level setting priority t e =
    let b = before-some base _ t (sym e) in
    let n = if-so (within optimization_range number) _ t b.2 in
    let l = before-some (level_of level) _ t n in
    let d = before-some (setting_of setting) _ t l.2 in
    let p = before-some (priority_of priority) _ t d.2 in
    let is : opens (nat_abs number) b.0 l.0 d.0 p.0 ≡ t = cc in
    record {
      is_number = ap (λ (u : Opened). u.number) is;
      is_base = b.1 ∙ ap (λ (u : Opened). Some u.base) is;
      is_level = l.1 ∙ ap (λ (u : Opened). Some u.level) is;
      is_setting = d.1 ∙ ap (λ (u : Opened). Some u.setting) is;
      is_priority = p.1 ∙ ap (λ (u : Opened). Some u.priority) is;
    }

module _ (v : Valuation) (s : State) (code : Option Code) (number : ℤ) (base : Option Currency) (level setting : ℤ) (priority : List ℕ) where
  abbrev refusal : Option Told
  refusal = first_told (opening_faults v s code number base level setting priority)

  abbrev by_code : Option Told
  by_code = first_told (code_faults s code base)

  abbrev by_terms : Option Told
  by_terms = first_told (terms_faults code number base level setting priority)

  abbrev by_room : ℕ → Option Told
  by_room n = first_told (room_faults v s code base n)

  stages : refusal ≡ either by_code (either by_terms (by_room (nat_abs number)))
  stages =
      told-joined (code_faults s code base) (terms_faults code number base level setting priority ++ room_faults v s code base (nat_abs number))
      ∙ ap (either by_code) (told-joined (terms_faults code number base level setting priority) (room_faults v s code base (nat_abs number)))

  pub refused-code : (t : Told) → Some t ≡ by_code → Some t ≡ refusal
  refused-code t a = sym (stages ∙ (λ i. either (sym a i) (either by_terms (by_room (nat_abs number)))))

  pub refused-terms : (t : Told) → None ≡ by_code → Some t ≡ by_terms → Some t ≡ refusal
  refused-terms t a b = sym (stages ∙ (λ i. either (sym a i) (either (sym b i) (by_room (nat_abs number)))))

  pub told-room : (o : Option Told) (n : ℕ) → None ≡ by_code → None ≡ by_terms → nat_abs number ≡ n → o ≡ by_room n → o ≡ refusal
  told-room o n a b is c = sym (stages ∙ (λ i. either (sym a i) (either (sym b i) (by_room (is i)))) ∙ sym c)

  -- the account that nothing stands against
  pub opens-account : (k : Code) (t : Opened) → IsFree s code k → ReadFrom number base level setting priority t → None ≡ by_room t.number → (a : AccountState) → a ≡ new_account k t.number t.base t.level t.setting t.priority → Opens s code number base level setting priority a
  opens-account k t free from room a is =
      let admitted = none_told (not (admits_base v base)) _ _ (sym room) in
      let left = none_told (is_full s t.number) _ _ admitted.1 in
      subst (Opens s code number base level setting priority) (sym is) (record {
        is_code = free.0;
        is_number = from.is_number;
        is_base = from.is_base;
        is_level = from.is_level;
        is_setting = from.is_setting;
        is_priority = from.is_priority;
        is_new = refl;
        absent = free.1;
        room = left.0;
      })

-- an answer that is a fault
pub faulty : {X : Type 0} (r : Result X BookFault) (f : BookFault) (o : Option Told) (P : X → Type 0) → r ≡ Err f → Some (told f) ≡ o → (refusal_of told r ≡ o) × IfOk r P
faulty r f o P is e = (ap (refusal_of told) is ∙ e, subst (λ r. IfOk r P) (sym is) tt)
