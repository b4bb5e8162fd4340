use Rattle.std.proofs.Common.{arith}
use Rattle.std.proofs.lemmas.Int.{ints, clamps}
use Rattle.account.specs.declared.account.Figures.{Figures}
use Rattle.account.specs.declared.terms.Level.{Level}
use Rattle.account.specs.declared.terms.Level.TheVariants.{MarginRequirement, CashOptimization}
use Rattle.account.specs.Accounts.{Ranged}
use Rattle.valuation.specs.Laws.{InRange}
use Rattle.determination.specs.Balances.{balance}
use Rattle.determine.proofs.position.Position.balance.Goals as goal

pub returns-clause-answer : goal.returns-clause-answer
returns-clause-answer c = let r = c.args.self.ranged in omega (arith, ints, c.held_cash.ensures.answer, c.held_cash.ensures.ranged)

in-range : (level : Level) (f : Figures) → Ranged f → InRange (balance level f)
in-range MarginRequirement f r = omega (arith, ints, clamps)
in-range CashOptimization f r = omega (arith, ints)

pub returns-clause-ranged : goal.returns-clause-ranged
returns-clause-ranged c =
    let r = c.args.self.ranged in
    omega (arith, ints, c.held_cash.ensures.answer, c.held_cash.ensures.ranged, in-range c.args.self.level c.args.self.figures r)
