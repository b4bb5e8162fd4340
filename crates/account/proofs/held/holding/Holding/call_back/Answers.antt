use Rattle.std.proofs.Common.{rules}
use Rattle.account.proofs.Ceilings.{lowered}
use Rattle.account.proofs.held.holding.Holding.call_back.Goals as goal

pub with_cash-requires : goal.with_cash-requires
with_cash-requires c =
    let b = c.args.callback in
    let fits = lowered c.args.self.figures b.rate b.standing b.amount c.args.self.ranged c.requires.payment c.requires.granted in
    search rules
