use Rattle.std.proofs.Common.{rules}
use Rattle.determination.specs.Calls.{repayment_at}
use Rattle.determination.specs.Determinations.{balance_in, room_in}
use Rattle.determine.specs.Cases.{market_at, state_in}
use Rattle.determine.specs.Listed.{repayments_by}
use Rattle.determine.proofs.case.Case.repayments.Goals as goal

pub returns : goal.returns
unfolding repayments_by
returns c =
    let a = state_in c.args.self.now in
    c.walk.ensures.taken (repayment_at (market_at c.args.self.now) (balance_in a) (room_in a)) (λ r k w repaid. search rules)
