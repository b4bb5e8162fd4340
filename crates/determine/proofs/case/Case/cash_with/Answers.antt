use Rattle.std.proofs.Common.{◌≡◌, arith, rules}
use Rattle.std.proofs.lemmas.Int.{ints}
use Rattle.determination.specs.Determinations.{held_in}
use Rattle.determine.specs.Cases.{state_in}
use Rattle.determine.proofs.case.Case.cash_with.Goals as goal

pub returns : goal.returns
returns c =
    let held : c.held_cash.result ≡ held_in (state_in c.args.self.now) c.args.currency = search rules in
    omega (arith, ints, held, c.held_cash.ensures.ranged, c.of.ensures.answer, c.of.ensures.small)
