use Rattle.std.proofs.Common.{take}
use Rattle.std.specs.Fmt.{IsPlainFormatter, HasWritten}
use Rattle.account.specs.Priorities.{letters_all}
use Rattle.records.proofs.ending.write_letters.Given as goal

-- the letters of the currencies so far are written
abbrev pub invariant-loop-currency : goal.invariant-loop-currency
invariant-loop-currency g l = IsPlainFormatter l.initial.f → HasWritten g.W.Write.write_str_gives l.initial.f (letters_all (take l.currency-index l.order)) l.f
