use Rattle.std.proofs.Common.{◌≡◌, true, arith, rules}
use Rattle.std.proofs.lemmas.Int.{ints}
use Rattle.determination.specs.Determinations.{due_in}
use Rattle.determine.specs.Listed.{share_of}
use Rattle.determine.specs.Cases.{market_at, state_in}
use Rattle.determine.proofs.case.Case.share_in.Goals as goal

pub returns : goal.returns
unfolding share_of
returns c =
    let due : c.due-due.result ≡ due_in (state_in c.args.self.now) c.args.currency = search rules in
    let call = c.of.ensures in
    let repayment = c.of-2.ensures in
    let opened : (market_at c.args.self.now).is_open c.args.currency ≡ true = search rules in
    rw opened (omega (arith, ints, due, c.due-due.ensures.ranged, call.answer, call.small, repayment.answer, repayment.small))
