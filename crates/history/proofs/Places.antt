-- Figures by their place in book order, and accounts by their codes.
use Rattle.std.proofs.Common.{◌≡◌, ◌<◌, Bool, true, false, cond, length, get_or, replicate, sym, refl, ap, ◌∙◌, subst}
use Rattle.std.proofs.lemmas.Slice.Eq.{bytes_eq-Decides}
use Rattle.std.proofs.lemmas.List.{get_or-set_same, get_or-set_other, get_or-replicate}
use Rattle.std.proofs.lemmas.Bool.{eqb-false}
use Rattle.std.specs.Str.{bytes_eq}
use Rattle.money.specs.declared.code.Code.{Code}
use Rattle.money.specs.declared.currency.Currency.{Currency}
use Rattle.money.specs.Codes.{bytes_of, eight}
use Rattle.money.specs.Currencies.{currencies, place, is_same}
use Rattle.money.proofs.EachCurrency.{place-within, same-currency}
use Rattle.account.specs.declared.account.AccountState.{AccountState}
use Rattle.account.specs.declared.account.Figures.{Figures}
use Rattle.account.specs.Accounts.{no_figures, figures_in, with_figures, has_code, sound}
use Rattle.account.proofs.SoundAccounts.{sound-says}

-- FIGURES

-- an account with other figures in one currency
pub figures-with : (a : AccountState) (d c : Currency) (f : Figures) → sound a ≡ true → figures_in (with_figures a d f) c ≡ cond (is_same c d) f (figures_in a c)
figures-with a d c f fine = by (is_same c d) refl
  where
    by : (b : Bool) → is_same c d ≡ b → figures_in (with_figures a d f) c ≡ cond b f (figures_in a c)
    by true same =
        ap (λ e. figures_in (with_figures a d f) e) (same-currency c d same)
        ∙ get_or-set_same a.figures (place d) f no_figures (subst (λ n. place d < n) (sym (sound-says a fine).for_each) (place-within d))
    by false other = get_or-set_other a.figures (place d) (place c) f no_figures (eqb-false (place c) (place d) other)

-- the figures of a new account
pub new-figures : (c : Currency) → get_or (replicate (length currencies) no_figures) (place c) no_figures ≡ no_figures
new-figures c = get_or-replicate (length currencies) (place c) no_figures no_figures (place-within c)

-- CODES

pub same_code : (k code : Code) → bytes_eq (bytes_of k) (bytes_of code) ≡ true → k ≡ code
same_code k code e = ap eight ((bytes_eq-Decides (bytes_of k) (bytes_of code)).0 e)

-- an account under one code is not under another
pub other-code : (k code : Code) → bytes_eq (bytes_of k) (bytes_of code) ≡ false → (a : AccountState) → has_code k a ≡ true → has_code code a ≡ false
other-code k code apart a has = ap (λ z. bytes_eq (bytes_of z) (bytes_of code)) (same_code a.code k has) ∙ apart
