use Rattle.std.proofs.Common.{arith}
use Rattle.std.proofs.lemmas.Int.{ints, clamps}
use Rattle.determine.proofs.position.Position.due_to_participant.Goals as goal

pub returns-clause-answer : goal.returns-clause-answer
returns-clause-answer c = let r = c.args.self.ranged in omega (arith, ints, clamps, c.max.ensures.value)

pub returns-clause-ranged : goal.returns-clause-ranged
returns-clause-ranged c = let r = c.args.self.ranged in omega (arith, ints, clamps, c.max.ensures.value)
