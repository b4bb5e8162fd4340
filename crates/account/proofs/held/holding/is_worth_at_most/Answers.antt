use Rattle.std.proofs.Common.{◌≡◌, ◌*ℤ◌, ap, ◌∙◌, w64, to_z, of_z}
use lib.Signed.{le_z}
use mir.Syntax.{w128}
use Rattle.std.proofs.lemmas.Int.{to_z-of_z}
use Rattle.account.specs.Amounts.{is_worth_at_most}
use Rattle.account.proofs.Ceilings.{product_wide}
use Rattle.account.proofs.held.holding.is_worth_at_most.Goals as goal

pub returns : goal.returns
unfolding is_worth_at_most
returns c =
    let amount : to_z w128 (of_z w128 c.from.result) ≡ c.args.amount =
    to_z-of_z w128 c.from.result (record { sfits = c.from.type_inv }) ∙ c.from.ensures ∙ to_z-of_z w64 c.args.amount c.ranges.amount in
    let rate : to_z w128 (of_z w128 c.from-2.result) ≡ c.args.rate =
    to_z-of_z w128 c.from-2.result (record { sfits = c.from-2.type_inv }) ∙ c.from-2.ensures ∙ to_z-of_z w64 c.args.rate c.ranges.rate in
    let points : to_z w128 (of_z w128 c.from-3.result) ≡ c.args.points =
    to_z-of_z w128 c.from-3.result (record { sfits = c.from-3.type_inv }) ∙ c.from-3.ensures ∙ to_z-of_z w64 c.args.points c.ranges.points in
    (λ i. le_z (to_z w128 (of_z w128 (amount i *ℤ rate i))) (points i))
    ∙ ap (λ w. le_z w c.args.points) (to_z-of_z w128 (c.args.amount *ℤ c.args.rate) (product_wide c.args.amount c.args.rate c.ranges.amount c.ranges.rate))
