-- What a callback is refused for, stage by stage, and what it leaves.
use Rattle.std.proofs.Common.{◌≡◌, ℕ, Bool, true, false, cond, not, List, [], ◌∷◌, ◌++◌, get_or, ℤ, is_some, Some, None, Option, Result, sym, ap, ◌∙◌, arith}
use Rattle.money.specs.declared.cause.AccountCause.TheVariants.{OutOfRange, PastCeiling}
use Rattle.money.specs.declared.cause.BookCause.TheVariants.{RunOpen, CodeForm, CodeAbsent, CurrencyUnknown, Stopped}
use Rattle.money.specs.declared.cause.Cause.TheVariants.{Book, Account}
use Rattle.money.specs.declared.currency.Currency.{Currency}
use Rattle.money.specs.Codes.{code_of}
use Rattle.money.specs.Currencies.{currency_of}
use Rattle.money.specs.Ranges.{within, payment_range}
use Rattle.money.specs.Refusals.{Told, refusal_of}
use Rattle.account.specs.declared.account.AccountState.{AccountState}
use Rattle.account.specs.declared.booking.Booking.TheVariants.{Callback as CallsBack}
use Rattle.account.specs.Faults.{AccountFault}
use Rattle.account.specs.Amounts.{is_worth_at_most, may_call_back}
use Rattle.account.specs.Answers.{booking_answer, chosen}
use Rattle.account.specs.Bookings.{booking_change, callback_booked, change_figures}
use Rattle.account.specs.Faults.{told}
use Rattle.request.specs.Causes.{first_told, is_none, outside, tells_of}
use Rattle.determination.specs.Standings.{standing}
use Rattle.valuation.specs.Valuations.{Valuation}
use Rattle.history.specs.Bookings.{account_faults, callback_refusal, is_stopped, is_within_ceilings, booked, figures_of, held_under, is_held}
use Rattle.history.specs.States.{State, is_running, market_of, missing_rate}
use Rattle.history.specs.Steps.{unless}
use Rattle.history.proofs.Tests.{none_told}
use Rattle.book.specs.declared.book.callbacks.Granted.{Granted}
use Rattle.book.specs.Bookings.{booking_faults, booking_refusal, with_row}
use Rattle.book.specs.Callbacks.{callback_checks, Grantable}
use Rattle.book.specs.Places.{Located}
use Rattle.book.specs.Standings.{missing_fault}
use Rattle.book.proofs.Booked.{account, faults-left, own-account, own-figures, passed, more-told, booking-done}
use Rattle.book.proofs.Marketed.{lack}
use Rattle.book.proofs.Opened.{told-joined, either}

-- tests that are told after those of a call on an account
joined : (s : State) (code currency : List ℕ) (xs ys : List (Bool × Told)) → account_faults s code currency (xs ++ ys) ≡ either (account_faults s code currency xs) (first_told ys)
joined s code currency xs ys =
    told-joined
    ((is_running s, tells_of code currency (Book RunOpen))
    ∷ (is_none (code_of code), tells_of code currency (Book CodeForm))
    ∷ (not (is_held s code), tells_of code currency (Book CodeAbsent))
    ∷ (is_none (currency_of currency), tells_of code currency (Book CurrencyUnknown))
    ∷ xs)
    ys

module _ (s : State) (code currency : List ℕ) (at : ℕ) (unit : Currency) (l : Located s code currency at unit) (amount : ℤ) where
  abbrev checks : Option Told
  checks = account_faults s code currency (callback_checks s code currency amount)

  module _ (inside : within payment_range amount ≡ true) where
    after-range : checks ≡ first_told (missing_fault s (code_of code) ∷ (is_stopped s (held_under s (code_of code)), tells_of code currency (Book Stopped)) ∷ [])
    after-range = faults-left s code currency at unit l (callback_checks s code currency amount) ∙ passed (outside payment_range amount) (tells_of code currency (Account OutOfRange)) (first_told (missing_fault s (code_of code) ∷ (is_stopped s (held_under s (code_of code)), tells_of code currency (Book Stopped)) ∷ [])) (ap not inside)

    pub lacks-rate : (t : Told) → Some t ≡ lack (code_of code) (missing_rate s) → Some t ≡ checks
    lacks-rate t e = sym (after-range ∙ more-told (is_some (missing_rate s)) _ _ _ t (λ none. let z : ◌≡◌ {A = ℕ} 0 1 = cc in absurd (omega arith)) (sym e))

    module _ (rated : None ≡ lack (code_of code) (missing_rate s)) where
      after-rates : checks ≡ first_told ((is_stopped s (held_under s (code_of code)), tells_of code currency (Book Stopped)) ∷ [])
      after-rates = after-range ∙ passed (is_some (missing_rate s)) _ _ (none_told (is_some (missing_rate s)) _ _ (sym rated)).0

      stop-test : is_stopped s (held_under s (code_of code)) ≡ is_stopped s (Some (account s code currency at unit l))
      stop-test = ap (is_stopped s) (own-account s code currency at unit l)

      pub is-stopped : true ≡ is_stopped s (Some (account s code currency at unit l)) → Some (tells_of code currency (Book Stopped)) ≡ checks
      is-stopped stop = sym (after-rates ∙ ap (λ b. cond b (Some (tells_of code currency (Book Stopped))) None) (stop-test ∙ sym stop))

      pub not_stopped : false ≡ is_stopped s (Some (account s code currency at unit l)) → None ≡ checks
      not_stopped stop = sym (after-rates ∙ ap (λ b. cond b (Some (tells_of code currency (Book Stopped))) None) (stop-test ∙ sym stop))

-- the ceilings come last
abbrev last_test : Valuation → State → List ℕ → List ℕ → ℤ → Bool × Told
last_test v s code currency amount = (not (is_within_ceilings v s (held_under s (code_of code)) (currency_of currency) amount), tells_of code currency (Account PastCeiling))

-- a callback that is refused before its ceilings
pub callback-stopped : (v : Valuation) (s : State) (code currency : List ℕ) (amount : ℤ) (t : Told) → Some t ≡ account_faults s code currency (callback_checks s code currency amount) → (Some t ≡ callback_refusal v s code currency amount) × (s ≡ unless (callback_refusal v s code currency amount) s (booked s code currency (callback_booked amount)))
callback-stopped v s code currency amount t e =
    let refusal : Some t ≡ callback_refusal v s code currency amount = sym (joined s code currency (callback_checks s code currency amount) (last_test v s code currency amount ∷ []) ∙ ap (λ o. either o (first_told (last_test v s code currency amount ∷ []))) (sym e)) in
    (refusal, ap (λ o. unless o s (booked s code currency (callback_booked amount))) refusal)

-- and one that its ceilings decide
module _ (v : Valuation) (s : State) (code currency : List ℕ) (amount : ℤ) (given : Granted) (g : Grantable v s code currency amount given) (none : None ≡ account_faults s code currency (callback_checks s code currency amount)) where
  abbrev l : Located s code currency given.at given.currency
  l = g.located

  abbrev a : AccountState
  a = g.located.held.lies.account

  abbrev grants : Bool
  grants = may_call_back (figures_of s code currency) ((market_of s).rate given.currency) (standing v (market_of s) a) amount

  ceilings : is_within_ceilings v s (held_under s (code_of code)) (currency_of currency) amount ≡ grants
  unfolding may_call_back is_worth_at_most
  ceilings =
      (λ i. is_within_ceilings v s (own-account s code currency given.at given.currency l i) (l.is_currency i) amount)
      ∙ ap (λ f. may_call_back f ((market_of s).rate given.currency) (standing v (market_of s) a) amount) (sym (own-figures s code currency given.at given.currency l))

  inside : outside payment_range amount ≡ false
  inside = (none_told (outside payment_range amount) (tells_of code currency (Account OutOfRange)) (first_told (missing_fault s (code_of code) ∷ (is_stopped s (held_under s (code_of code)), tells_of code currency (Book Stopped)) ∷ [])) (sym (none ∙ faults-left s code currency given.at given.currency l (callback_checks s code currency amount)))).0

  same : booking_refusal s code currency (CallsBack given.callback) ≡ callback_refusal v s code currency amount
  same =
      ap (λ b. booking_refusal s code currency (CallsBack b)) g.is_callback
      ∙ faults-left s code currency given.at given.currency l (booking_faults s code currency (CallsBack (record { amount = amount; rate = (market_of s).rate given.currency; standing = standing v (market_of s) a })))
      ∙ passed (outside payment_range amount) (tells_of code currency (Account OutOfRange)) (first_told ((not grants, tells_of code currency (Account PastCeiling)) ∷ [])) inside
      ∙ ap (λ b. cond (not b) (Some (tells_of code currency (Account PastCeiling))) None) (sym ceilings)
      ∙ sym (joined s code currency (callback_checks s code currency amount) (last_test v s code currency amount ∷ []) ∙ ap (λ o. either o (first_told (last_test v s code currency amount ∷ []))) (sym none))

  pub callback-done : (r : Result Unit AccountFault) (t : State) → ((d : AccountState) → r ≡ booking_answer (get_or s.accounts given.at d) given.currency (CallsBack given.callback)) → ((d : AccountState) → t ≡ chosen r s (with_row s given.at (change_figures (booking_change (CallsBack given.callback)) given.currency (get_or s.accounts given.at d)))) → (refusal_of told r ≡ callback_refusal v s code currency amount) × (t ≡ unless (callback_refusal v s code currency amount) s (booked s code currency (callback_booked amount)))
  callback-done r t answer after =
      let d = booking-done s code currency given.at given.currency l (CallsBack given.callback) r t answer after in
      (d.0 ∙ same, d.1 ∙ (λ i. unless (same i) s (booked s code currency (callback_booked (g.is_callback i).amount))))
