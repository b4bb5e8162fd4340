use Rattle.std.proofs.Common.{rules}
use Rattle.account.specs.Amounts.{may_call_back}
use Rattle.account.proofs.held.holding.Holding.grants.Goals as goal

pub returns : goal.returns
unfolding may_call_back
returns c = search rules
