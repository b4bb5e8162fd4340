use Rattle.determine.specs.Markets.{market_in}
use Rattle.history.specs.States.{market_of, missing_rate}
use Rattle.book.specs.Books.{meaning}
use Rattle.book.proofs.Marketed.{quoted}
use Rattle.book.proofs.book.Book.market_for.Goals as goal

pub returns-in-Ok-clause-market : goal.returns-in-Ok-clause-market
returns-in-Ok-clause-market g c =
    let s = meaning c.args.self.now in
    quoted (missing_rate s) (market_of s) (market_in c.in-Ok.market) c.in-Ok.ensures
