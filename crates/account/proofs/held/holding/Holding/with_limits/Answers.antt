use Rattle.std.proofs.Common.{w64}
use Rattle.std.proofs.lemmas.Int.{to_z-of_z}
use Rattle.account.proofs.SoundBookings.{ranged-limits}
use Rattle.account.proofs.held.holding.Holding.with_limits.Goals as goal

pub invariant_of-self : goal.invariant_of-self
invariant_of-self c = record {
  ranged = simp (to_z-of_z w64 c.args.limit c.ranges.limit, to_z-of_z w64 c.args.excess c.ranges.excess)
      (ranged-limits c.args.self.figures c.args.limit c.args.excess c.args.self.ranged c.requires);
}
