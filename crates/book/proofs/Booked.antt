-- A call on an account that is found: what it answers, and the book after it.
use Rattle.std.proofs.Common.{◌≡◌, ℕ, Bool, true, false, cond, not, ◌&&◌, ◌||◌, List, [], get_or, ◌+ℤ◌, is_some, Some, None, Ok, Err, Option, Result, sym, refl, ap, ◌∙◌, arith}
use Rattle.money.specs.declared.cause.AccountCause.{AccountCause}
use Rattle.money.specs.declared.cause.AccountCause.TheVariants.{OutOfRange, PastBound, PastCeiling}
use Rattle.money.specs.declared.cause.Cause.TheVariants.{Account}
use Rattle.money.specs.declared.currency.Currency.{Currency}
use Rattle.money.specs.Codes.{code_of}
use Rattle.money.specs.Currencies.{currency_of}
use Rattle.money.specs.Ranges.{within, figure_range, settlement_range, payment_range}
use Rattle.money.specs.Refusals.{Told, tells, refusal_of}
use Rattle.money.proofs.Readings.{first_passes}
use Rattle.account.specs.declared.account.AccountState.{AccountState}
use Rattle.account.specs.declared.booking.Booking.{Booking}
use Rattle.account.specs.declared.booking.Booking.TheVariants.{Deposit, Settlement, Limits, Margin, Callback}
use Rattle.account.specs.Faults.{AccountFault}
use Rattle.account.specs.Accounts.{figures_in, has_code}
use Rattle.account.specs.Amounts.{may_call_back}
use Rattle.account.specs.Answers.{booking_answer, chosen, fault_on}
use Rattle.account.specs.Bookings.{booking_change, change_figures}
use Rattle.account.specs.Faults.{told}
use Rattle.request.specs.declared.fault.BookFault.{BookFault}
use Rattle.request.specs.Faults.{told as told_by_book}
use Rattle.history.specs.Bookings.{account_faults, booked, figures_for, figures_of, held_under, is_held, with_accounts}
use Rattle.request.specs.Causes.{first_told, is_none, tells_of}
use Rattle.history.specs.States.{State, is_running}
use Rattle.history.specs.Steps.{unless}
use Rattle.history.proofs.Named.{or_same-some}
use Rattle.history.proofs.Places.{same_code}
use Rattle.book.specs.Bookings.{booking_faults, booking_refusal, after_booking, with_row}
use Rattle.book.specs.Places.{Located}

-- what is told by some tests is told by more
pub more-told : (b : Bool) (first : Told) (few more : Option Told) (t : Told) → (few ≡ Some t → more ≡ Some t) → cond b (Some first) few ≡ Some t → cond b (Some first) more ≡ Some t
more-told true first few more t later e = e
more-told false first few more t later e = later e

pub refused-first : (s : State) (code currency : List ℕ) (more : List (Bool × Told)) (t : Told) → account_faults s code currency [] ≡ Some t → account_faults s code currency more ≡ Some t
refused-first s code currency more t =
    more-told (is_running s) _ _ _ t (more-told (is_none (code_of code)) _ _ _ t (more-told (not (is_held s code)) _ _ _ t (more-told (is_none (currency_of currency)) _ _ _ t
    (λ e. let z : ◌≡◌ {A = ℕ} 0 1 = cc in absurd (omega arith)))))

-- a test that does not apply is passed over
pub passed : (b : Bool) (t : Told) (others : Option Told) → b ≡ false → cond b (Some t) others ≡ others
passed b t others e = ap (λ z. cond z (Some t) others) e

-- an account tells its tests one after another
one_told : (p q : Bool) (f : AccountFault) → cond (not p || not q) (Some (told f)) None ≡ refusal_of {X = Unit} told (cond (p && q) (Ok tt) (Err f))
one_told true true f = refl
one_told true false f = refl
one_told false q f = refl

two-told : (p q : Bool) (f g : AccountFault) → cond (not p) (Some (told f)) (cond (not q) (Some (told g)) None) ≡ refusal_of {X = Unit} told (cond p (cond q (Ok tt) (Err g)) (Err f))
two-told true true f g = refl
two-told true false f g = refl
two-told false q f g = refl

module _ (s : State) (code currency : List ℕ) (at : ℕ) (unit : Currency) (l : Located s code currency at unit) where
  abbrev pub account : AccountState
  account = l.held.lies.account

  pub own-account : held_under s (code_of code) ≡ Some account
  own-account = ap (held_under s) l.held.is_code ∙ l.held.lies.found

  -- nothing stands against the call before the account is asked
  pub faults-left : (more : List (Bool × Told)) → account_faults s code currency more ≡ first_told more
  faults-left more =
      passed (is_running s) _ _ l.idle
      ∙ passed (is_none (code_of code)) _ _ (ap is_none l.held.is_code)
      ∙ passed (not (is_held s code)) _ _ (ap (λ o. not (is_some o)) own-account)
      ∙ passed (is_none (currency_of currency)) _ _ (ap is_none l.is_currency)

  -- the account's faults tell what the call names
  tells-own : (cause : AccountCause) → tells_of code currency (Account cause) ≡ told (fault_on account unit cause)
  tells-own cause =
      let named = same_code account.code l.held.key (first_passes (has_code l.held.key) s.accounts account l.held.lies.found) in
      λ i. tells (Account cause) ((l.held.is_code ∙ ap Some (sym named)) i) (l.is_currency i)

  pub own-figures : figures_of s code currency ≡ figures_in account unit
  own-figures = (λ i. figures_for (held_under s (l.held.is_code i)) (l.is_currency i)) ∙ ap (λ o. figures_for o (Some unit)) l.held.lies.found

  -- and are those that the list of causes has
  pub account-told : (booking : Booking) → first_told (booking_faults s code currency booking) ≡ refusal_of told (booking_answer account unit booking)
  account-told (Deposit amount) =
      (λ i. cond (not (within payment_range amount)) (Some (tells-own OutOfRange i)) (cond (not (within figure_range ((own-figures i).cash +ℤ amount))) (Some (tells-own PastBound i)) None))
      ∙ two-told (within payment_range amount) (within figure_range ((figures_in account unit).cash +ℤ amount)) _ _
  account-told (Settlement amount) =
      (λ i. cond (not (within settlement_range amount)) (Some (tells-own OutOfRange i)) (cond (not (within settlement_range ((own-figures i).settlement +ℤ amount))) (Some (tells-own PastBound i)) None))
      ∙ two-told (within settlement_range amount) (within settlement_range ((figures_in account unit).settlement +ℤ amount)) _ _
  account-told (Limits limit excess) =
      (λ i. cond (not (within figure_range limit) || not (within figure_range excess)) (Some (tells-own OutOfRange i)) None) ∙ one_told (within figure_range limit) (within figure_range excess) _
  account-told (Margin requirement non_cash) =
      (λ i. cond (not (within figure_range requirement) || not (within figure_range non_cash)) (Some (tells-own OutOfRange i)) None) ∙ one_told (within figure_range requirement) (within figure_range non_cash) _
  account-told (Callback b) =
      (λ i. cond (not (within payment_range b.amount)) (Some (tells-own OutOfRange i)) (cond (not (may_call_back (own-figures i) b.rate b.standing b.amount)) (Some (tells-own PastCeiling i)) None))
      ∙ two-told (within payment_range b.amount) (may_call_back (figures_in account unit) b.rate b.standing b.amount) _ _

  pub booking-told : (booking : Booking) → booking_refusal s code currency booking ≡ refusal_of told (booking_answer account unit booking)
  booking-told booking = faults-left (booking_faults s code currency booking) ∙ account-told booking

  -- the account is changed in its place
  pub booking-lands : (booking : Booking) (r : Result Unit AccountFault) (t : State) → r ≡ booking_answer account unit booking → t ≡ chosen r s (with_row s at (change_figures (booking_change booking) unit account)) → t ≡ after_booking s code currency booking
  booking-lands booking r t answer after = by r (booking-told booking ∙ ap (refusal_of told) (sym answer)) after
    where
      there : booked s code currency (booking_change booking) ≡ with_row s at (change_figures (booking_change booking) unit account)
      there =
          or_same-some s (code_of code) _ l.held.key l.held.is_code ∙ or_same-some s (currency_of currency) _ unit l.is_currency
          ∙ ap (λ accounts. with_accounts s accounts s.optimizations) (l.held.lies.changes (change_figures (booking_change booking) unit))

      by : (r : Result Unit AccountFault) → booking_refusal s code currency booking ≡ refusal_of told r → t ≡ chosen r s (with_row s at (change_figures (booking_change booking) unit account)) → t ≡ after_booking s code currency booking
      by (Ok done) refusal after = after ∙ sym there ∙ sym (ap (λ o. unless o s (booked s code currency (booking_change booking))) refusal)
      by (Err fault) refusal after = after ∙ sym (ap (λ o. unless o s (booked s code currency (booking_change booking))) refusal)

  -- by what the account at the place answers, and the book that it leaves
  pub booking-done : (booking : Booking) (r : Result Unit AccountFault) (t : State) → ((d : AccountState) → r ≡ booking_answer (get_or s.accounts at d) unit booking) → ((d : AccountState) → t ≡ chosen r s (with_row s at (change_figures (booking_change booking) unit (get_or s.accounts at d)))) → (refusal_of told r ≡ booking_refusal s code currency booking) × (t ≡ after_booking s code currency booking)
  booking-done booking r t answer after =
      let a : r ≡ booking_answer account unit booking = answer account ∙ ap (λ x. booking_answer x unit booking) (l.held.lies.stands account) in
      let b : t ≡ chosen r s (with_row s at (change_figures (booking_change booking) unit account)) = after account ∙ ap (λ x. chosen r s (with_row s at (change_figures (booking_change booking) unit x))) (l.held.lies.stands account) in
      (ap (refusal_of told) a ∙ sym (booking-told booking), booking-lands booking r t a b)

-- a call that names no account to be changed leaves the book
pub booking-stopped : (s : State) (code currency : List ℕ) (booking : Booking) (f : BookFault) → Some (told_by_book f) ≡ account_faults s code currency [] → (Some (told_by_book f) ≡ booking_refusal s code currency booking) × (s ≡ after_booking s code currency booking)
booking-stopped s code currency booking f e =
    let told = refused-first s code currency (booking_faults s code currency booking) (told_by_book f) (sym e) in
    (sym told, sym (ap (λ o. unless o s (booked s code currency (booking_change booking))) told))
