use Rattle.std.proofs.Common.{refl, ap, ◌∙◌}
use Rattle.std.proofs.Math.Seq.{map-set_same}
use Rattle.quotes.specs.Rates.{are_quotes}
use Rattle.quotes.proofs.quotes.Quotes.set_status.Goals as goal

pub invariant_of-self : goal.invariant_of-self
invariant_of-self c = record { rated = ap are_quotes (map-set_same (λ g. g.rate) c.args.self.now.given _ _ _ refl) ∙ c.args.self.now.rated }

pub returns-clause-rates : goal.returns-clause-rates
returns-clause-rates c = map-set_same (λ g. g.rate) c.args.self.now.given _ _ _ refl
