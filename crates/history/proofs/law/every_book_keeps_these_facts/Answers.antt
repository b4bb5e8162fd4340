use Rattle.history.proofs.FactLaws.{every-book-fact}
use Rattle.history.proofs.law.every_book_keeps_these_facts.Goals as goal

pub returns : goal.returns
returns c = every-book-fact
