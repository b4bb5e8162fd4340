use Rattle.std.proofs.Common.{◌≡◌, true, sym, ap, ◌∙◌, subst, w64, to_z, of_z}
use Rattle.std.proofs.lemmas.Int.{to_z-of_z}
use Rattle.account.specs.Answers.{state_of}
use Rattle.determination.specs.Determinations.{total}
use Rattle.determination.specs.Laws.{DeterminationLaw}
use Rattle.valuation.specs.Valuations.{Valuation}
use Rattle.determination.proofs.DeterminationLaws.{every-determination}
use Rattle.determine.specs.Answers.{determination_answer, answer_at, DeterminedBy}
use Rattle.determine.specs.Markets.{market_in}
use Rattle.determine.proofs.Determined.{answered, determined-by}
use Rattle.determine.proofs.Rated.{rate-within}
use Rattle.determine.proofs.determine.determine.Goals as goal

pub returns : goal.returns
returns g c =
    let v : Valuation = g.V.Valuation.meaning in
    let m = market_in c.args.market.now in
    let a = state_of c.args.account.now in
    let is : to_z w64 (of_z w64 c.total-total.result) ≡ total v m a = to_z-of_z w64 c.total-total.result (record { sfits = c.total-total.type_inv }) ∙ c.total-total.ensures.answer in
    let answer : c.determination.result ≡ determination_answer v m a = c.determination.ensures ∙ ap (answer_at m a) is ∙ answered v m a in
    let law : v.admits a.base ≡ true → DeterminationLaw v m a = λ admitted.
    every-determination v m a g.met.V.Valuation.lawful
    (record { rated = rate-within c.args.market.now.quotes c.args.market.now.rated; admitted = admitted; sound = c.args.account.now.soundness }) in
    record { answer = answer; determined = λ admitted. subst (DeterminedBy v m a) (sym answer) (determined-by v m a (law admitted)); law = law }
