use Rattle.std.proofs.Common.{◌∙◌, rules, w64}
use Rattle.std.proofs.lemmas.Int.{to_z-of_z}
use Rattle.account.specs.Answers.{state_of}
use Rattle.determination.specs.Determinations.{balance_in, total}
use Rattle.determine.proofs.worth.total.Goals as goal

pub returns-clause-answer : goal.returns-clause-answer
unfolding total
returns-clause-answer g c =
    to_z-of_z w64 c.worth.result (record { sfits = c.worth.type_inv })
    ∙ c.worth.ensures.answer (balance_in (state_of c.args.account.now)) (λ k x called. search rules)
