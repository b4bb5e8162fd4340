use Rattle.std.proofs.Common.{◌≡◌, true, ap, ◌∙◌, w64, rules}
use Rattle.std.proofs.lemmas.Int.{to_z-of_z}
use Rattle.std.proofs.lemmas.List.{map-set}
use Rattle.money.specs.Ranges.{within, rate_range}
use Rattle.quotes.specs.Given.{rates_of}
use Rattle.quotes.specs.Rates.{are_quotes}
use Rattle.quotes.proofs.RateLaws.{quotes-set}
use Rattle.quotes.proofs.quotes.Quotes.set_rate.Goals as goal

pub invariant_of-self : goal.invariant_of-self
invariant_of-self c =
    let q = c.args.self.now in
    let fine : within rate_range c.args.rate ≡ true = search rules in
    record { rated = ap are_quotes (map-set (λ g. g.rate) q.given c.index.result _) ∙ simp (to_z-of_z w64 c.args.rate c.ranges.rate) (quotes-set (rates_of q.given) c.index.result c.args.rate q.rated fine) }
