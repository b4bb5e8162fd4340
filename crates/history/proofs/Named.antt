-- What a call on an account that is not refused names.
use Rattle.std.proofs.Common.{◌≡◌, ℕ, Bool, true, false, not, List, Some, None, Option, ap, ◌∙◌}
use Rattle.money.specs.declared.code.Code.{Code}
use Rattle.money.specs.declared.currency.Currency.{Currency}
use Rattle.money.specs.Codes.{code_of}
use Rattle.money.specs.Currencies.{currency_of}
use Rattle.money.specs.Refusals.{Told}
use Rattle.account.specs.declared.account.AccountState.{AccountState}
use Rattle.account.specs.declared.account.Figures.{Figures}
use Rattle.account.specs.Accounts.{figures_in, has_code}
use Rattle.account.specs.Bookings.{change_figures}
use Rattle.history.specs.Bookings.{or_same, held_under, is_held, figures_for, figures_of, account_faults, booked, change_first, with_accounts}
use Rattle.request.specs.Causes.{first_told, is_none}
use Rattle.history.specs.States.{State, is_running, account_with}
use Rattle.history.proofs.Tests.{none_told, is-there, not-not}

-- no run is open, the code and the currency are well formed, and the account is held
pub record Named (s : State) (code currency : List ℕ) : Type 0 where
  pub key : Code
  pub is_code : code_of code ≡ Some key
  pub unit : Currency
  pub is_currency : currency_of currency ≡ Some unit
  pub idle : is_running s ≡ false
  pub held : is_held s code ≡ true

pub named-says : (s : State) (code currency : List ℕ) (more : List (Bool × Told)) → account_faults s code currency more ≡ None → Named s code currency × (first_told more ≡ None)
named-says s code currency more e =
    let run = none_told (is_running s) _ _ e in
    let form = none_told (is_none (code_of code)) _ _ run.1 in
    let absent = none_told (not (is_held s code)) _ _ form.1 in
    let unknown = none_told (is_none (currency_of currency)) _ _ absent.1 in
    let k = is-there (code_of code) form.0 in
    let d = is-there (currency_of currency) unknown.0 in (
      record { key = k.0; is_code = k.1; unit = d.0; is_currency = d.1; idle = run.0; held = not-not (is_held s code) absent.0 },
      unknown.1,
    )

-- the figures that the call speaks of are those of the account that is found
pub figures-of : (s : State) (code currency : List ℕ) (n : Named s code currency) (a : AccountState) → account_with s n.key ≡ Some a → figures_of s code currency ≡ figures_in a n.unit
figures-of s code currency n a is =
    (λ i. figures_for (held_under s (n.is_code i)) (n.is_currency i)) ∙ ap (λ o. figures_for o (Some n.unit)) is

pub or_same-some : {X : Type 0} (s : State) (o : Option X) (change : X → State) (x : X) → o ≡ Some x → or_same s o change ≡ change x
or_same-some s o change x is = ap (λ p. or_same s p change) is

-- the account that is named is changed, and no other
pub booked-is : (s : State) (code currency : List ℕ) (n : Named s code currency) (change : Figures → Figures) → booked s code currency change ≡ with_accounts s (change_first (has_code n.key) (change_figures change n.unit) s.accounts) s.optimizations
booked-is s code currency n change =
    or_same-some s (code_of code) _ n.key n.is_code ∙ or_same-some s (currency_of currency) _ n.unit n.is_currency
