-- An account and its figures.
use Rattle.std.specs.Prelude.{ℕ, Bool, ◌&&◌, List, length, replicate, ℤ, pos, neg_ℤ, ◌≤ℤ◌, ◌==◌, slice_index_or, slice_set}
use Rattle.std.specs.Str.{bytes_eq}
use Rattle.money.specs.declared.code.Code.{Code}
use Rattle.money.specs.declared.currency.Currency.{Currency}
use Rattle.money.specs.Codes.{bytes_of}
use Rattle.money.specs.Currencies.{currencies, place}
use Rattle.money.specs.Options.{every}
use Rattle.money.specs.Ranges.{bound, within, figure_range, settlement_range}
use Rattle.account.specs.declared.account.AccountState.{AccountState}
use Rattle.account.specs.declared.account.Figures.{Figures}
use Rattle.account.specs.declared.terms.DebitSetting.{DebitSetting}
use Rattle.account.specs.declared.terms.Level.{Level}
use Rattle.account.specs.Priorities.{names_each_once}

abbrev pub no_figures : Figures
no_figures = record { cash = pos 0; limit = pos 0; excess = pos 0; non_cash = pos 0; requirement = pos 0; settlement = pos 0 }

-- the figures of an account in a currency
abbrev pub figures_in : AccountState → Currency → Figures
figures_in a c = slice_index_or a.figures (place c) no_figures

abbrev pub with_all_figures : AccountState → List Figures → AccountState
with_all_figures a figures = record {
  code = a.code;
  optimization = a.optimization;
  base = a.base;
  level = a.level;
  setting = a.setting;
  priority = a.priority;
  figures = figures;
}

-- an account with other figures in one currency
abbrev pub with_figures : AccountState → Currency → Figures → AccountState
with_figures a c f = with_all_figures a (slice_set a.figures (place c) f)

-- a new account has all figures 0
abbrev pub new_account : Code → ℕ → Currency → Level → DebitSetting → List Currency → AccountState
new_account code optimization base level setting priority = record {
  code = code;
  optimization = optimization;
  base = base;
  level = level;
  setting = setting;
  priority = priority;
  figures = replicate (length currencies) no_figures;
}

abbrev pub has_code : Code → AccountState → Bool
has_code code a = bytes_eq (bytes_of a.code) (bytes_of code)

-- every figure of a currency lies in its range
abbrev pub in_range : Figures → Bool
in_range f =
    within figure_range f.cash && within figure_range f.limit && within figure_range f.excess
    && within figure_range f.non_cash && within figure_range f.requirement && within settlement_range f.settlement

-- a figure from 0 to the bound
pub record UpToBound (x : ℤ) : Type 0 where
  pub low : pos 0 ≤ℤ x
  pub high : x ≤ℤ bound

-- the ranges of all figures, as orders of numbers
pub record Ranged (f : Figures) : Type 0 where
  pub cash : UpToBound f.cash
  pub limit : UpToBound f.limit
  pub excess : UpToBound f.excess
  pub non_cash : UpToBound f.non_cash
  pub requirement : UpToBound f.requirement
  pub lowest : neg_ℤ bound ≤ℤ f.settlement
  pub highest : f.settlement ≤ℤ bound

-- an account as it can be: figures for each currency, all in range, and a priority that names each currency once
unfoldable pub sound : AccountState → Bool
sound a = length a.figures == length currencies && every in_range a.figures && names_each_once a.priority
