use Rattle.std.proofs.Common.{arith, rules}
use Rattle.std.proofs.lemmas.Int.{ints, clamps}
use Rattle.account.proofs.held.holding.Holding.due_to_house.Goals as goal

pub returns : goal.returns
returns c =
    let e = c.due_to_house.ensures in
    record { answer = search rules; ranged = record { low = omega (arith, ints, clamps); high = omega (arith, ints, clamps) } }
