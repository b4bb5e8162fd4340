use Rattle.account.proofs.SoundAccounts.{sound-new}
use Rattle.account.proofs.held.Account.new.Goals as goal

pub invariant_of-result : goal.invariant_of-result
invariant_of-result c = record {
  soundness = simp c.order.ensures (sound-new _ _ _ _ _ c.args.priority.order c.args.priority.once);
}
