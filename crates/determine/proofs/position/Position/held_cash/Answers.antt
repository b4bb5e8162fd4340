use Rattle.std.proofs.Common.{◌≡◌, arith}
use Rattle.std.proofs.lemmas.Int.{ints, clamps}
use Rattle.account.specs.declared.terms.Level.TheVariants.{MarginRequirement}
use Rattle.determination.specs.Balances.{cover}
use Rattle.determine.proofs.position.Position.held_cash.Goals as goal

pub overflow_add-result : goal.overflow_add-result
overflow_add-result c =
    let r = c.args.self.ranged in
    let covered : c.cover.result ≡ cover MarginRequirement c.args.self.figures = rw c.in-MarginRequirement.is at c.cover.ensures in
    omega (arith, ints, clamps, covered, c.due_to_participant.ensures.answer)

pub returns-in-MarginRequirement : goal.returns-in-MarginRequirement
returns-in-MarginRequirement c =
    let r = c.args.self.ranged in
    let covered : c.cover.result ≡ cover MarginRequirement c.args.self.figures = rw c.in-MarginRequirement.is at c.cover.ensures in
    record {
      answer = rw c.in-MarginRequirement.is (omega (arith, ints, clamps, covered, c.due_to_participant.ensures.answer));
      ranged = omega (arith, ints, clamps, covered, c.due_to_participant.ensures.answer);
    }
