-- Accounts stay as they can be.
use Rattle.std.proofs.Common.{◌≡◌, ℕ, ◌<◌, slice_index_or, true, ◌&&◌, eqb, List, length, refl, ◌∙◌, arith, length-set, eq-eqb, eqb-true}
use Rattle.std.proofs.lemmas.Bool.{and_parts, and_from}
use Rattle.money.specs.declared.code.Code.{Code}
use Rattle.money.specs.declared.currency.Currency.{Currency}
use Rattle.money.specs.Currencies.{currencies, place}
use Rattle.money.specs.Options.{every}
use Rattle.money.proofs.EachCurrency.{place-within}
use Rattle.account.specs.declared.account.AccountState.{AccountState}
use Rattle.account.specs.declared.account.Figures.{Figures}
use Rattle.account.specs.declared.terms.DebitSetting.{DebitSetting}
use Rattle.account.specs.declared.terms.Level.{Level}
use Rattle.account.specs.Accounts.{no_figures, figures_in, with_figures, new_account, in_range, Ranged, sound}
use Rattle.account.specs.Priorities.{names_each_once}
use Rattle.account.proofs.Lists.{every-at-place, every_set}
use Rattle.account.proofs.Ranges.{in-range-says, in-range-from}

pub record Parts (a : AccountState) : Type 0 where
  pub for_each : length a.figures ≡ length currencies
  pub ranged : every in_range a.figures ≡ true
  pub once : names_each_once a.priority ≡ true

pub sound-says : (a : AccountState) → sound a ≡ true → Parts a
unfolding sound
sound-says a e =
    let p = and_parts (eqb (length a.figures) (length currencies) && every in_range a.figures) (names_each_once a.priority) e in
    let q = and_parts (eqb (length a.figures) (length currencies)) (every in_range a.figures) p.0 in
    record { for_each = eqb-true _ _ q.0; ranged = q.1; once = p.1 }

pub sound-from : (a : AccountState) → Parts a → sound a ≡ true
unfolding sound
sound-from a p = and_from _ _ (and_from _ _ (eq-eqb _ _ p.for_each) p.ranged) p.once

pub ranged_at : (a : AccountState) → sound a ≡ true → (i : ℕ) → i < length currencies → Ranged (slice_index_or a.figures i no_figures)
ranged_at a e i within =
    let p = sound-says a e in
    in-range-says _ (every-at-place in_range a.figures i no_figures p.ranged (omega (arith, p.for_each)))

pub figures-ranged : (a : AccountState) → sound a ≡ true → (c : Currency) → Ranged (figures_in a c)
figures-ranged a e c = ranged_at a e (place c) (place-within c)

pub sound-with : (a : AccountState) (c : Currency) (f : Figures) → sound a ≡ true → Ranged f → sound (with_figures a c f) ≡ true
sound-with a c f e r =
    let p = sound-says a e in
    sound-from (with_figures a c f) (record {
      for_each = length-set a.figures (place c) f ∙ p.for_each;
      ranged = every_set in_range a.figures (place c) f p.ranged (in-range-from f r);
      once = p.once;
    })

pub sound-new : (code : Code) (number : ℕ) (base : Currency) (level : Level) (setting : DebitSetting) (priority : List Currency) → names_each_once priority ≡ true → sound (new_account code number base level setting priority) ≡ true
sound-new code number base level setting priority e = sound-from _ (record { for_each = refl; ranged = refl; once = e })
