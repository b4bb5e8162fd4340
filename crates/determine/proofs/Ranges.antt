-- The amounts of figures in range are in range.
use Rattle.std.proofs.Common.{◌≡◌, true, ◌-ℤ◌, arith}
use Rattle.std.specs.Int.{int_max}
use Rattle.std.proofs.lemmas.Int.{ints, clamps}
use Rattle.money.specs.declared.currency.Currency.{Currency}
use Rattle.account.specs.declared.account.AccountState.{AccountState}
use Rattle.account.specs.declared.account.Figures.{Figures}
use Rattle.account.specs.declared.terms.Level.{Level}
use Rattle.account.specs.declared.terms.Level.TheVariants.{MarginRequirement, CashOptimization}
use Rattle.account.specs.Accounts.{figures_in, Ranged, sound}
use Rattle.account.specs.Amounts.{due_to_house, due_to_participant, standing_amount}
use Rattle.account.proofs.SoundAccounts.{figures-ranged}
use Rattle.valuation.specs.Laws.{InRange}
use Rattle.determination.specs.Balances.{cover, held_cash}
use Rattle.determination.specs.Determinations.{held_in, due, due_in}
use Rattle.determination.specs.Standings.{standing_amount_in}

module _ (f : Figures) (r : Ranged f) where
  pub house-in-range : InRange (due_to_house f)
  house-in-range = omega (arith, ints, clamps)

  pub participant-in-range : InRange (due_to_participant f)
  participant-in-range = omega (arith, ints, clamps)

  pub cover-in-range : (level : Level) → InRange (cover level f)
  cover-in-range MarginRequirement = omega (arith, ints, clamps)
  cover-in-range CashOptimization = omega (arith, ints)

  pub uncovered-in-range : (level : Level) → InRange (f.cash -ℤ cover level f)
  uncovered-in-range MarginRequirement = omega (arith, ints, clamps)
  uncovered-in-range CashOptimization = omega (arith, ints)

  pub held-in-range : (level : Level) → InRange (held_cash level f)
  held-in-range MarginRequirement = omega (arith, ints, clamps)
  held-in-range CashOptimization = omega (arith, ints)

  pub above-in-range : (level : Level) → InRange (held_cash level f -ℤ f.limit)
  above-in-range MarginRequirement = omega (arith, ints, clamps)
  above-in-range CashOptimization = omega (arith, ints)

  pub requirement-in-range : InRange (f.non_cash -ℤ f.requirement)
  requirement-in-range = omega (arith, ints)

  pub due-in-range : (level : Level) → InRange (due level f)
  due-in-range MarginRequirement = omega (arith, ints, clamps)
  due-in-range CashOptimization = omega (arith, ints)

  pub withheld-in-range : InRange (int_max f.limit f.excess)
  withheld-in-range = omega (arith, ints, clamps)

  pub amount-in-range : InRange (standing_amount f)
  amount-in-range = omega (arith, ints)

pub standing-in-range : (a : AccountState) → sound a ≡ true → (c : Currency) → InRange (standing_amount_in a c)
standing-in-range a s c = amount-in-range (figures_in a c) (figures-ranged a s c)

pub held-in-account : (a : AccountState) → sound a ≡ true → (c : Currency) → InRange (held_in a c)
held-in-account a s c = held-in-range (figures_in a c) (figures-ranged a s c) a.level

pub due-in-account : (a : AccountState) → sound a ≡ true → (c : Currency) → InRange (due_in a c)
due-in-account a s c = due-in-range (figures_in a c) (figures-ranged a s c) a.level
