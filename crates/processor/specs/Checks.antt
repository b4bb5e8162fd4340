-- A sheet that is only checked.
use Rattle.std.specs.Prelude.{ℕ, List, Some, None, Option}
use Rattle.money.specs.Refusals.{Told}
use Rattle.text.specs.Rows.{rows}
use Rattle.records.specs.Admissions.{barred}
use Rattle.processor.specs.Prints.{shown_refusal}
use Rattle.processor.specs.Sheets.{sheet_of, printed_by}

abbrev pub noted_for : ℕ → List ℕ → Option Told → List ℕ
noted_for n line None = line
noted_for n line (Some told) = shown_refusal n told

-- an admitted line is printed as it is, another with what bars it
abbrev pub noted : ℕ → List ℕ → List ℕ
noted n line = noted_for n line (barred line)

abbrev pub notes : ℕ → List (List ℕ) → List ℕ
notes n lines = printed_by {S = Unit} (λ u n line. noted n line) (λ u line. tt) tt n lines

abbrev pub checked : List ℕ → List ℕ
checked input = notes 0 (rows (sheet_of input))
