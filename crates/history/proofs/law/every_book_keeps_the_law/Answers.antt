use Rattle.history.proofs.Theorem.{every-book, every_call}
use Rattle.history.proofs.law.every_book_keeps_the_law.Goals as goal

pub returns : goal.returns
returns c = record { books = every-book; calls = every_call }
