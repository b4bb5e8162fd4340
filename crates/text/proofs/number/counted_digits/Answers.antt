use Rattle.std.proofs.Common.{arith}
use Rattle.text.proofs.DigitLaws.{short}
use Rattle.text.proofs.number.counted_digits.Goals as goal

pub overflow_mul-n : goal.overflow_mul-n
overflow_mul-n c = omega (arith, short c.args.text.now c.loop-b.b-index c.loop-b.n (omega arith) c.loop-b.invariant.1 c.loop-b.invariant.0)

pub overflow_add-n : goal.overflow_add-n
overflow_add-n c = omega (arith, c.from.ensures, short c.args.text.now c.loop-b.b-index c.loop-b.n (omega arith) c.loop-b.invariant.1 c.loop-b.invariant.0)

pub returns-clause-bound : goal.returns-clause-bound
returns-clause-bound c = short c.args.text.now c.loop-b.b-index c.loop-b.n (omega arith) c.loop-b.invariant.1 c.loop-b.invariant.0
