use Rattle.std.proofs.Common.{arith}
use Rattle.std.proofs.lemmas.Int.{ints, clamps}
use Rattle.determine.proofs.position.Position.room.Goals as goal

pub overflow_sub-result : goal.overflow_sub-result
overflow_sub-result c = let r = c.args.self.ranged in omega (arith, ints, clamps, c.held_cash.ensures.ranged, c.withheld.ensures)

pub returns : goal.returns
returns c = let r = c.args.self.ranged in omega (arith, ints, clamps, c.held_cash.ensures.answer, c.held_cash.ensures.ranged, c.withheld.ensures)
