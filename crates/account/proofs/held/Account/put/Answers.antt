use Rattle.account.proofs.SoundAccounts.{sound-with}
use Rattle.account.proofs.held.Account.put.Goals as goal

pub invariant_of-self : goal.invariant_of-self
invariant_of-self c = record {
  soundness = simp c.index.ensures (sound-with c.args.self.now.state c.args.currency c.args.holding.figures c.args.self.now.soundness c.args.holding.ranged);
}
