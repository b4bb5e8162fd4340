use Rattle.std.proofs.Common.{◌≡◌, sym, ◌∙◌, subst, rules, w64}
use Rattle.std.proofs.lemmas.Int.{to_z-of_z}
use Rattle.account.specs.Answers.{state_of}
use Rattle.valuation.specs.Laws.{InRange}
use Rattle.determination.specs.Standings.{standing, standing_amount_in}
use Rattle.determine.proofs.Ranges.{standing-in-range}
use Rattle.determine.proofs.worth.standing.Goals as goal

pub worth-requires-clause-ranged : goal.worth-requires-clause-ranged
worth-requires-clause-ranged g c =
    let a = state_of c.args.account.now in
    λ k x called. let is : x ≡ standing_amount_in a k = search rules in subst InRange (sym is) (standing-in-range a c.args.account.now.soundness k)

pub returns : goal.returns
unfolding standing
returns g c =
    to_z-of_z w64 c.worth.result (record { sfits = c.worth.type_inv })
    ∙ c.worth.ensures.answer (standing_amount_in (state_of c.args.account.now)) (λ k x called. search rules)
