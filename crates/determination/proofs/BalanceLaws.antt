-- The balances of a sound account are in range.
use Rattle.std.proofs.Common.{◌≡◌, ℕ, zero, suc, Bool, true, List, [], ◌∷◌, get_or, ℤ, pos, ◌+ℤ◌, neg_ℤ, ◌≤ℤ◌, refl, arith}
use lib.Signed.{le_z}
use Rattle.std.proofs.lemmas.Int.{ints, clamps}
use Rattle.std.proofs.lemmas.Bool.{and_parts}
use Rattle.money.specs.declared.currency.Currency.{Currency}
use Rattle.money.specs.declared.range.Range.{Range}
use Rattle.money.specs.Currencies.{place}
use Rattle.money.specs.Options.{every}
use Rattle.money.specs.Ranges.{bound, within, figure_range, settlement_range}
use Rattle.account.specs.declared.account.AccountState.{AccountState}
use Rattle.account.specs.declared.account.Figures.{Figures}
use Rattle.account.specs.declared.terms.Level.{Level}
use Rattle.account.specs.declared.terms.Level.TheVariants.{MarginRequirement, CashOptimization}
use Rattle.account.specs.Accounts.{figures_in, in_range, no_figures, sound}
use Rattle.account.specs.Priorities.{names_each_once}
use Rattle.valuation.specs.Laws.{InRange}
use Rattle.determination.specs.Balances.{held_cash, balance}
use Rattle.determination.specs.Determinations.{balance_in, held_in}
use Rattle.determination.proofs.Namings.{EachOnce, each-once}

pub range-ends : (range : Range) (x : ℤ) → within range x ≡ true → (range.low ≤ℤ x) × (x ≤ℤ range.high)
range-ends range x e = let p = and_parts (le_z range.low x) (le_z x range.high) e in (omega (arith, ints), omega (arith, ints))

-- THE FIGURES

-- the amounts that a balance comes from: held cash may be double
record Bounded (level : Level) (f : Figures) : Type 0 where
  held : (pos 0 ≤ℤ held_cash level f) × (held_cash level f ≤ℤ (bound +ℤ bound))
  limit : (pos 0 ≤ℤ f.limit) × (f.limit ≤ℤ bound)
  non-cash : (pos 0 ≤ℤ f.non_cash) × (f.non_cash ≤ℤ bound)
  requirement : (pos 0 ≤ℤ f.requirement) × (f.requirement ≤ℤ bound)

bounded : (level : Level) (f : Figures) → in_range f ≡ true → Bounded level f
bounded level f ranged =
    let s = and_parts _ _ ranged in let r = and_parts _ _ s.0 in let n = and_parts _ _ r.0 in let e = and_parts _ _ n.0 in let l = and_parts _ _ e.0 in
    record {
      held = held level (range-ends figure_range f.cash l.0) (range-ends figure_range f.limit l.1) (range-ends settlement_range f.settlement s.1);
      limit = range-ends figure_range f.limit l.1;
      non-cash = range-ends figure_range f.non_cash n.1;
      requirement = range-ends figure_range f.requirement r.1;
    }
  where
    held : (level : Level) → (pos 0 ≤ℤ f.cash) × (f.cash ≤ℤ bound) → (pos 0 ≤ℤ f.limit) × (f.limit ≤ℤ bound) → (neg_ℤ bound ≤ℤ f.settlement) × (f.settlement ≤ℤ bound) →
        (pos 0 ≤ℤ held_cash level f) × (held_cash level f ≤ℤ (bound +ℤ bound))
    held MarginRequirement c l s = (omega (arith, ints, clamps), omega (arith, ints, clamps))
    held CashOptimization c l s = (omega (arith, ints), omega (arith, ints))

balance-range : (level : Level) (f : Figures) → in_range f ≡ true → InRange (balance level f)
balance-range level f ranged = let b = bounded level f ranged in omega (arith, ints)

called-range : (level : Level) (f : Figures) (w : ℤ) → in_range f ≡ true → pos 0 ≤ℤ w → (held_cash level f +ℤ w) ≤ℤ bound → InRange (balance level f +ℤ w)
called-range level f w ranged from_zero payable = let b = bounded level f ranged in omega (arith, ints)

-- THE ACCOUNT

every-get_or : {X : Type 0} (f : X → Bool) (xs : List X) (i : ℕ) (d : X) → f d ≡ true → every f xs ≡ true → f (get_or xs i d) ≡ true
every-get_or f [] i d default all = default
every-get_or f (x ∷ xs) zero d default all = (and_parts (f x) (every f xs) all).0
every-get_or f (x ∷ xs) (suc i) d default all = every-get_or f xs i d default (and_parts (f x) (every f xs) all).1

module _ (a : AccountState) (is-sound : sound a ≡ true) where
  sound-parts : (every in_range a.figures ≡ true) × (names_each_once a.priority ≡ true)
  unfolding sound
  sound-parts = let p = and_parts _ _ is-sound in ((and_parts _ _ p.0).1, p.1)

  pub priority-once : EachOnce a.priority
  priority-once = each-once a.priority sound-parts.1

  figures-range : (c : Currency) → in_range (figures_in a c) ≡ true
  figures-range c = every-get_or in_range a.figures (place c) no_figures refl sound-parts.0

  pub balance-in-range : (c : Currency) → InRange (balance_in a c)
  balance-in-range c = balance-range a.level (figures_in a c) (figures-range c)

  -- and so they are with calls that lead to no more than the bound
  pub called-in-range : (c : Currency) (w : ℤ) → pos 0 ≤ℤ w → (held_in a c +ℤ w) ≤ℤ bound → InRange (balance_in a c +ℤ w)
  called-in-range c w = called-range a.level (figures_in a c) w (figures-range c)
