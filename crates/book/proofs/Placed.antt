-- Where the look-up finds an account, and whether it finds an optimization number.
use Rattle.std.proofs.Common.{◌≡◌, ℕ, List, map, is_some, Some, None, Option, sym, ap, ◌∙◌}
use Rattle.std.specs.Cmp.{unsigned_tied}
use Rattle.money.specs.declared.code.Code.{Code}
use Rattle.money.specs.CodeOrders.{code_order}
use Rattle.money.specs.Options.{first_of}
use Rattle.money.proofs.CodeOrderLaws.{tied-same}
use Rattle.account.specs.declared.account.AccountState.{AccountState}
use Rattle.account.specs.declared.held.Account.{Account}
use Rattle.account.specs.Accounts.{has_code}
use Rattle.account.specs.Answers.{state_of}
use Rattle.register.specs.Rows.{place_of}
use Rattle.history.specs.declared.optimization.OptimizationAccount.{OptimizationAccount}
use Rattle.history.specs.Bookings.{has_number}
use Rattle.book.specs.Places.{PlaceOf}
use Rattle.book.specs.Rows.{codes_of, numbers_of}
use Rattle.book.proofs.Keyed.{found_none, found_some, map-twice}
use Rattle.std.specs.Ordering.{nat_cmp}

pub place-lies : (rows : List Account) (codes : List Code) (key : Code) (r : Option ℕ) → codes_of rows ≡ codes → r ≡ place_of code_order codes key → PlaceOf (map state_of rows) key r
place-lies rows codes key r coded is = by r (ap (λ ks. place_of code_order ks key) (map-twice state_of (λ (a : AccountState). a.code) rows ∙ coded) ∙ sym is)
  where
    by : (r : Option ℕ) → place_of code_order (map (λ (a : AccountState). a.code) (map state_of rows)) key ≡ r → PlaceOf (map state_of rows) key r
    by None e = found_none code_order (λ (a : AccountState). a.code) key (has_code key) (λ a. tied-same a.code key) (map state_of rows) e
    by (Some at) e =
        let f = found_some code_order (λ (a : AccountState). a.code) key (has_code key) (λ a. tied-same a.code key) (map state_of rows) at e in
        record { account = f.row; within = f.within; stands = f.stands; found = f.found; changes = f.changes }

-- an optimization number is in use just where the look-up finds it
pub number-placed : (rows : List OptimizationAccount) (numbers : List ℕ) (number : ℕ) (r : Option ℕ) → numbers_of rows ≡ numbers → r ≡ place_of nat_cmp numbers number → is_some r ≡ is_some (first_of (has_number number) rows)
number-placed rows numbers number r numbered is = by r (ap (λ ks. place_of nat_cmp ks number) numbered ∙ sym is)
  where
    by : (r : Option ℕ) → place_of nat_cmp (numbers_of rows) number ≡ r → is_some r ≡ is_some (first_of (has_number number) rows)
    by None e = sym (ap is_some (found_none nat_cmp (λ (o : OptimizationAccount). o.number) number (has_number number) (λ o. unsigned_tied o.number number) rows e))
    by (Some at) e = sym (ap is_some (found_some nat_cmp (λ (o : OptimizationAccount). o.number) number (has_number number) (λ o. unsigned_tied o.number number) rows at e).found)
