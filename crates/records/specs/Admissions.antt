-- Which lines are admitted.
use Rattle.std.specs.Prelude.{◌≡◌, ℕ, true, List, Some, None, Ok, Err, Option, Result}
use Rattle.money.specs.Options.{before}
use Rattle.std.specs.Result.{result_ok}
use Rattle.money.specs.Refusals.{Told, refusal_of}
use Rattle.request.specs.declared.fault.BookFault.{BookFault}
use Rattle.request.specs.declared.order.Opening.{Opening as OpeningOrder}
use Rattle.request.specs.declared.order.Order.{Order}
use Rattle.request.specs.declared.order.Order.TheVariants.{Opening}
use Rattle.request.specs.Faults.{told as told_by_book}
use Rattle.lines.specs.declared.fault.SheetFault.{SheetFault}
use Rattle.records.specs.declared.record.Record.{Record}
use Rattle.lines.specs.Entries.{meant}
use Rattle.lines.specs.Faults.{no_form}
use Rattle.lines.specs.Lines.{Line, written, parsed}
use Rattle.records.specs.Records.{line_of, sound, barred_for, record_of}

-- what bars bytes from being a record: their form, or what the line says
abbrev pub barred_by : Option Line → Option Told
barred_by None = Some no_form
barred_by (Some l) = barred_for l

-- a line is admitted where nothing bars it
abbrev pub barred : List ℕ → Option Told
barred bytes = barred_by (parsed bytes)

abbrev pub admission : List ℕ → Option Record
admission bytes = before (parsed bytes) record_of

-- the bytes are what a sound record is written as
abbrev pub Admits : List ℕ → Record → Type 0
Admits bytes r = (sound r ≡ true) × (written (line_of r) ≡ bytes)

-- the answer is the record that the bytes are written as, and a refusal just where they are written as none
abbrev pub Exactly : List ℕ → Result Record SheetFault → Type 0
Exactly bytes (Ok x) = Admits bytes x
Exactly bytes (Err f) = (x : Record) → Admits bytes x → ⊥

-- the line that an opening is
abbrev pub opening_line : OpeningOrder → Line
opening_line o = meant (Opening o)

-- the answer to an order is the record of its line, or what bars the line
pub record OrderRecord (order : Order) (r : Result Record BookFault) : Type 0 where
  pub answer : refusal_of told_by_book r ≡ barred_for (meant order)
  pub value : result_ok r ≡ record_of (meant order)
