use Rattle.std.proofs.Common.{◌≡◌, ◌++◌, string_bytes}
use Rattle.text.specs.Rows.{left}
use Rattle.processor.specs.Performances.{outputs, transcribed}
use Rattle.processor.specs.Processors.{state_of}
use Rattle.processor.proofs.perform.transcript.Given as goal

abbrev pub invariant-loop-at : goal.invariant-loop-at
invariant-loop-at g l =
    string_bytes l.out ++ outputs g.V.Valuation.meaning (state_of l.processor) l.at-iterator.count (left l.at-iterator.iter) ≡ transcribed g.V.Valuation.meaning l.input
