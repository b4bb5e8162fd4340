use Rattle.std.proofs.Common.{pos, rules}
use Rattle.determine.specs.Cases.{market_at, state_in}
use Rattle.determine.specs.Listed.{share_of, shares_of}
use Rattle.determine.proofs.Mapped.{mapped}
use Rattle.determine.proofs.case.Case.shares.Goals as goal

pub returns : goal.returns
unfolding shares_of
returns c =
    let p = c.args.self.now in
    mapped _ (share_of (market_at p) (state_in p) c.args.calls.now.list c.args.repayments.now.list) _ (λ q k y called. (search rules, search rules)) c.map.result (pos 0) c.map.ensures.items
