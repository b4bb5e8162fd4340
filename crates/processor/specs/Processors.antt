-- The book of a processor.
use Rattle.history.specs.States.{State}
use Rattle.book.specs.Books.{meaning}
use Rattle.processor.specs.declared.perform.Processor.{Processor}

abbrev pub state_of : {V : Type 0} → Processor V → State
state_of p = meaning p.book
