use Rattle.std.proofs.Common.{◌≡◌, ◌++◌, string_bytes}
use Rattle.text.specs.Rows.{left}
use Rattle.processor.specs.Checks.{notes, checked}
use Rattle.processor.proofs.check.check_sheet.Given as goal

abbrev pub invariant-loop-at : goal.invariant-loop-at
invariant-loop-at l = string_bytes l.out ++ notes l.at-iterator.count (left l.at-iterator.iter) ≡ checked l.input
