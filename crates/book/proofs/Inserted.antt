-- New rows at their insertion points.
use Rattle.std.proofs.Common.{◌≡◌, ℕ, ◌<◌, ◌≤◌, Bool, true, false, cond, T, eqb, ltb, List, [], ◌∷◌, map, length, is_some, Some, None, vec_items, sym, refl, ap, ◌∙◌, subst, arith, ltb-true, eqb-true}
use Rattle.std.specs.List.{insert, list_all}
use Rattle.std.specs.Cmp.{nat_cmp_total, unsigned_tied}
use Rattle.std.specs.Ordering.{is_lt, nat_cmp}
use Rattle.std.proofs.lemmas.Bool.{and_parts, le-ltb}
use Rattle.money.specs.declared.code.Code.{Code}
use Rattle.money.specs.Codes.{bytes_of}
use Rattle.money.specs.CodeOrders.{is_below, code_order}
use Rattle.money.specs.Options.{first_of}
use Rattle.money.proofs.CodeOrderLaws.{code_total, tied-same, less-below, rank_less}
use Rattle.account.specs.declared.account.AccountState.{AccountState}
use Rattle.account.specs.declared.held.Account.{Account}
use Rattle.account.specs.Accounts.{has_code}
use Rattle.account.specs.Answers.{state_of}
use Rattle.register.specs.Rows.{ascending, place_of, InsertionPoint}
use Rattle.history.specs.declared.optimization.OptimizationAccount.{OptimizationAccount}
use Rattle.history.specs.Bookings.{has_number, is_in_use, insert_account, insert_number}
use Rattle.history.specs.States.{account_with}
use Rattle.history.proofs.Tests.{not_there}
use Rattle.book.specs.declared.book.Book.{Book}
use Rattle.book.specs.Books.{meaning}
use Rattle.book.specs.Rows.{codes_of, numbers_of}
use Rattle.book.proofs.Keyed.{Inserts, inserted-row, none-placed, map-inserted, map-twice}

is_true : (b : Bool) → T b → b ≡ true
is_true true t = refl
is_true false t = absurd t

-- a new account among the rows, whose codes are these
pub record AccountPut (rows : List Account) (codes : List Code) (new : Account) (at : ℕ) : Type 0 where
  pub lies : map state_of (insert rows at new) ≡ insert_account (state_of new) (map state_of rows)
  pub coded : codes_of (insert rows at new) ≡ insert codes at (state_of new).code
  pub rising : ascending code_order (insert codes at (state_of new).code) ≡ true

pub account-put : (rows : List Account) (codes : List Code) (new : Account) (at : ℕ) → codes_of rows ≡ codes → at ≤ length codes → InsertionPoint code_order codes (state_of new).code at → first_of (has_code (state_of new).code) (map state_of rows) ≡ None → AccountPut rows codes new at
account-put rows codes new at coded le point absent =
    let key_of : AccountState → Code = λ a. a.code in
    let keys : map key_of (map state_of rows) ≡ codes = map-twice state_of key_of rows ∙ coded in
    let none = none-placed code_order key_of (state_of new).code (has_code (state_of new).code) (λ a. tied-same a.code (state_of new).code) (map state_of rows) absent in
    let how : Inserts {R = code_order} code_total key_of (state_of new) (λ a. is_below (bytes_of (state_of new).code) (bytes_of a.code)) (insert_account (state_of new)) =
    record { below = λ a. less-below (state_of new).code a.code; last = refl; next = λ a more e. refl } in
    record {
      lies = map-inserted state_of rows at new ∙ sym (inserted-row code_total key_of (state_of new) _ (insert_account (state_of new)) how (map state_of rows) at (omega (arith, le, ap length keys))
          (subst (λ ks. InsertionPoint code_order ks (state_of new).code at) (sym keys) point) none);
      coded = map-inserted (λ a. (state_of a).code) rows at new ∙ ap (λ ks. insert ks at (state_of new).code) coded;
      rising = is_true _ (point.keeps (ap (λ ks. place_of code_order ks (state_of new).code) (sym keys) ∙ none));
    }

-- a new optimization number among the rows, whose numbers are these
abbrev pub new_number : ℕ → OptimizationAccount
new_number number = record { number = number; stopped = false }

pub record NumberPut (rows : List OptimizationAccount) (numbers : List ℕ) (number : ℕ) (at : ℕ) : Type 0 where
  pub lies : insert rows at (new_number number) ≡ insert_number number rows
  pub numbered : numbers_of (insert rows at (new_number number)) ≡ insert numbers at number
  pub climbing : ascending nat_cmp (insert numbers at number) ≡ true

pub number_put : (rows : List OptimizationAccount) (numbers : List ℕ) (number : ℕ) (at : ℕ) → numbers_of rows ≡ numbers → at ≤ length numbers → InsertionPoint nat_cmp numbers number at → first_of (has_number number) rows ≡ None → NumberPut rows numbers number at
number_put rows numbers number at numbered le point absent =
    let key_of : OptimizationAccount → ℕ = λ o. o.number in
    let none = none-placed nat_cmp key_of number (has_number number) (λ o. unsigned_tied o.number number) rows absent in
    let how : Inserts nat_cmp_total key_of (new_number number) (λ o. ltb number o.number) (insert_number number) =
    record { below = λ o. rank_less number o.number; last = refl; next = λ o more e. ap (λ b. cond b (o ∷ more) (cond (ltb number o.number) (new_number number ∷ o ∷ more) (o ∷ insert_number number more))) (sym (unsigned_tied o.number number) ∙ e) } in
    record {
      lies = sym (inserted-row nat_cmp_total key_of (new_number number) _ (insert_number number) how rows at (omega (arith, le, ap length numbered))
          (subst (λ ks. InsertionPoint nat_cmp ks number at) (sym numbered) point) none);
      numbered = map-inserted key_of rows at (new_number number) ∙ ap (λ ks. insert ks at number) numbered;
      climbing = is_true _ (point.keeps (ap (λ ks. place_of nat_cmp ks number) (sym numbered) ∙ none));
    }

-- a number that is in use stays as it is
pub below-found : (m n : ℕ) (rows : List OptimizationAccount) → list_all (λ k. is_lt (nat_cmp m k)) (numbers_of rows) ≡ true → is_some (first_of (has_number n) rows) ≡ true → m < n
below-found m n [] low e = let z : ◌≡◌ {A = ℕ} 0 1 = cc in absurd (omega arith)
below-found m n (o ∷ os) low e = by (eqb o.number n) refl (and_parts (is_lt (nat_cmp m o.number)) _ low) (below-found m n os) e
  where
    by : (b : Bool) → eqb o.number n ≡ b → (is_lt (nat_cmp m o.number) ≡ true) × (list_all (λ k. is_lt (nat_cmp m k)) (numbers_of os) ≡ true) → (list_all (λ k. is_lt (nat_cmp m k)) (numbers_of os) ≡ true → is_some (first_of (has_number n) os) ≡ true → m < n) → is_some (cond b (Some o) (first_of (has_number n) os)) ≡ true → m < n
    by true is low later e = omega (arith, ltb-true m o.number (sym (rank_less m o.number) ∙ low.0), eqb-true _ _ is)
    by false is low later e = later low.1 e

pub number-kept : (n : ℕ) (rows : List OptimizationAccount) → ascending nat_cmp (numbers_of rows) ≡ true → is_some (first_of (has_number n) rows) ≡ true → insert_number n rows ≡ rows
number-kept n [] up e = let z : ◌≡◌ {A = ℕ} 0 1 = cc in absurd (omega arith)
number-kept n (o ∷ os) up e = by (eqb o.number n) refl (and_parts (list_all (λ k. is_lt (nat_cmp o.number k)) (numbers_of os)) _ up) (number-kept n os) e
  where
    by : (b : Bool) → eqb o.number n ≡ b → (list_all (λ k. is_lt (nat_cmp o.number k)) (numbers_of os) ≡ true) × (ascending nat_cmp (numbers_of os) ≡ true) → (ascending nat_cmp (numbers_of os) ≡ true → is_some (first_of (has_number n) os) ≡ true → insert_number n os ≡ os) → is_some (cond b (Some o) (first_of (has_number n) os)) ≡ true → cond b (o ∷ os) (cond (ltb n o.number) (new_number n ∷ o ∷ os) (o ∷ insert_number n os)) ≡ o ∷ os
    by true is up later e = refl
    by false is up later e =
        let low = below-found o.number n os up.0 e in
        ap (λ b. cond b (new_number n ∷ o ∷ os) (o ∷ insert_number n os)) (le-ltb n o.number (omega arith)) ∙ ap (λ l. o ∷ l) (later up.1 e)

-- where the look-up says that they belong in a book
module _ {V : Type 0} (b : Book V) where
  pub account-fits : (account : Account) (code : Code) (slice : List Code) (at : ℕ) → code ≡ (state_of account).code → slice ≡ vec_items b.codes → at ≤ length slice → (T (ascending code_order slice) → InsertionPoint code_order slice code at) → account_with (meaning b) (state_of account).code ≡ None → AccountPut (vec_items b.accounts.rows) (vec_items b.codes) account at
  account-fits account code slice at own is le point absent =
      account-put (vec_items b.accounts.rows) (vec_items b.codes) account at b.coded (omega (arith, le, ap length is))
      (subst (λ k. InsertionPoint code_order (vec_items b.codes) k at) own (subst (λ ks. InsertionPoint code_order ks code at) is (point (subst T (sym (ap (ascending code_order) is ∙ b.rising)) tt))))
      absent

  pub number_fits : (number : ℕ) (slice : List ℕ) (at : ℕ) → slice ≡ vec_items b.numbers → at ≤ length slice → (T (ascending nat_cmp slice) → InsertionPoint nat_cmp slice number at) → is_in_use (meaning b) number ≡ false → NumberPut (vec_items b.optimizations) (vec_items b.numbers) number at
  number_fits number slice at is le point absent =
      number_put (vec_items b.optimizations) (vec_items b.numbers) number at b.numbered (omega (arith, le, ap length is))
      (subst (λ ks. InsertionPoint nat_cmp ks number at) is (point (subst T (sym (ap (ascending nat_cmp) is ∙ b.climbing)) tt)))
      (not_there _ absent)
