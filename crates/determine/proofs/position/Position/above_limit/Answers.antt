use Rattle.std.proofs.Common.{arith}
use Rattle.std.proofs.lemmas.Int.{ints, clamps}
use Rattle.determine.proofs.position.Position.above_limit.Goals as goal

pub returns : goal.returns
returns c = let r = c.args.self.ranged in omega (arith, ints, clamps, c.max.ensures.value)
