use Rattle.std.proofs.Common.{w64}
use Rattle.std.proofs.lemmas.Int.{to_z-of_z}
use Rattle.account.proofs.SoundBookings.{ranged-margin}
use Rattle.account.proofs.held.holding.Holding.with_margin.Goals as goal

pub invariant_of-self : goal.invariant_of-self
invariant_of-self c = record {
  ranged = simp (to_z-of_z w64 c.args.requirement c.ranges.requirement, to_z-of_z w64 c.args.non_cash c.ranges.non_cash)
      (ranged-margin c.args.self.figures c.args.requirement c.args.non_cash c.args.self.ranged c.requires);
}
