use Rattle.history.proofs.Theorem.{every_call}
use Rattle.book.specs.Books.{meaning}
use Rattle.book.specs.Orders.{ordered}
use Rattle.book.proofs.book.Book.perform.Goals as goal

pub returns-clause-law : goal.returns-clause-law
returns-clause-law g c =
    every_call g.V.Valuation.meaning (meaning c.args.self.now) (meaning c.carry_out.new.self) (ordered c.args.order) g.met.V.Valuation.lawful c.carry_out.ensures.after
