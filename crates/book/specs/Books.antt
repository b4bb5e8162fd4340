-- What a book in memory means.
use Rattle.std.specs.Prelude.{ℕ, cond, List, [], map, Ok, Err, vec_items, Result}
use Rattle.money.specs.declared.cause.BookCause.TheVariants.{RunOpen}
use Rattle.money.specs.declared.currency.Currency.{Currency}
use Rattle.account.specs.Answers.{state_of}
use Rattle.request.specs.declared.fault.BookFault.{BookFault}
use Rattle.request.specs.declared.subject.Subject.{Subject}
use Rattle.request.specs.Subjects.{currency_subject, fault_of, currency_answer}
use Rattle.quotes.specs.Quoted.{rates_in, statuses_in}
use Rattle.history.specs.States.{State, is_running}
use Rattle.book.specs.declared.book.Book.{Book}

-- the accounts are kept with the proof that they are sound, which their meaning leaves out; no run can be open yet, so none is kept
abbrev pub meaning : {V : Type 0} → Book V → State
meaning b = record {
  number = b.number;
  rates = rates_in b.quotes;
  statuses = statuses_in b.quotes;
  accounts = map state_of (vec_items b.accounts.rows);
  optimizations = vec_items b.optimizations;
  running = b.running;
  kept = [];
  runs = b.runs;
}

-- an open run stands against any call but a question or a conclusion
abbrev pub idle_answer : State → Subject → Result Unit BookFault
idle_answer s subject = cond (is_running s) (Err (fault_of subject RunOpen)) (Ok tt)

-- the currency of a call, or why there is none: a run is open, or it is not one of the book's
abbrev pub idle_currency : State → List ℕ → Result Currency BookFault
idle_currency s currency = cond (is_running s) (Err (fault_of (currency_subject currency) RunOpen)) (currency_answer (currency_subject currency))
