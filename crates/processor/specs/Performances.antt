-- A sheet performed on a book.
use Rattle.std.specs.Prelude.{ℕ, List, [], Some, None, Ok, Err, Option, Result}
use Rattle.money.specs.Refusals.{Told}
use Rattle.text.specs.Rows.{rows}
use Rattle.valuation.specs.Valuations.{Valuation}
use Rattle.history.specs.Calls.{Call, set_rate, set_holiday, open_account, set_limits, set_margin, deposit as deposit_cash, settle, call_back}
use Rattle.history.specs.Steps.{refused, step}
use Rattle.history.specs.States.{State, new_state}
use Rattle.lines.specs.declared.fault.SheetFault.{SheetFault}
use Rattle.records.specs.declared.record.Record.{Record}
use Rattle.records.specs.Admissions.{Admits}
use Rattle.lines.specs.Faults.{no_form}
use Rattle.lines.specs.Lines.{Line, rate, holiday, opening, limits, margin, deposit, settlement, callback, parsed}
use Rattle.processor.specs.Prints.{shown_refusal}
use Rattle.processor.specs.Sheets.{sheet_of, printed_by}

-- the call that a line makes
abbrev pub call_of : Line → Call
call_of (rate k x) = set_rate k x
call_of (holiday k x) = set_holiday k x
call_of (opening c n b l s p) = open_account c n b l s p
call_of (limits c k x y) = set_limits c k x y
call_of (margin c k x y) = set_margin c k x y
call_of (deposit c k x) = deposit_cash c k x
call_of (settlement c k x) = settle c k x
call_of (callback c k x) = call_back c k x

abbrev pub answer_to : Valuation → State → Option Line → Option Told
answer_to v s None = Some no_form
answer_to v s (Some l) = refused v s (call_of l)

-- what a line is refused for: its form, or what the book says to its call
abbrev pub answer : Valuation → State → List ℕ → Option Told
answer v s line = answer_to v s (parsed line)

abbrev pub after_one : Valuation → State → Option Line → State
after_one v s None = s
after_one v s (Some l) = step v s (call_of l)

-- the book after a line
abbrev pub after : Valuation → State → List ℕ → State
after v s line = after_one v s (parsed line)

-- a line that is performed is admitted: some sound record is written so
abbrev pub Performed : List ℕ → Result Unit SheetFault → Type 0
Performed line (Ok u) = (x : Record) × Admits line x
Performed line (Err f) = Unit {0}

-- a line that is performed prints nothing, a refused one its refusal
abbrev pub printed : ℕ → Option Told → List ℕ
printed n None = []
printed n (Some told) = shown_refusal n told

abbrev pub outputs : Valuation → State → ℕ → List (List ℕ) → List ℕ
outputs v s n lines = printed_by (λ s n line. printed n (answer v s line)) (after v) s n lines

-- what the program prints of an input; its book has the number 1
abbrev pub transcribed : Valuation → List ℕ → List ℕ
transcribed v input = outputs v (new_state 1) 0 (rows (sheet_of input))
