use Rattle.std.proofs.Common.{rules}
use Rattle.determine.proofs.Rated.{is-rate}
use Rattle.determine.proofs.market.Market.rate.Goals as goal

pub returns-clause-ranged : goal.returns-clause-ranged
returns-clause-ranged c = let r = is-rate c.args.self.now.quotes c.args.self.now.rated c.args.currency in search rules
