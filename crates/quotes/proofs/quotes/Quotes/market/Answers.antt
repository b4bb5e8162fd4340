use Rattle.std.proofs.Common.{rules}
use Rattle.quotes.specs.Quoted.{rates_in, statuses_in}
use Rattle.quotes.proofs.RateLaws.{market-made}
use Rattle.quotes.proofs.quotes.Quotes.market.Goals as goal

pub returns : goal.returns
returns c =
    let q = c.args.self.now in
    let made = market-made (rates_in q) q.rated (statuses_in q) (search rules) in
    search rules
