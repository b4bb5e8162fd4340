use Rattle.std.proofs.Common.{pos, negsuc, arith}
use Rattle.valuation.specs.Examples.{ValuationFacts}
use Rattle.valuation.specs.Laws.{InRange}
use Rattle.valuation.specs.ChargeLaws.{flat-lawful, flat-outside}
use Rattle.valuation.specs.NormLaws.{norms-lawful}
use Rattle.valuation.proofs.worked.worked_counts.Goals as goal

facts : ValuationFacts
facts = record {
  flat_charge = flat-lawful;
  lending_norms = norms-lawful;
  surplus = λ base currency different. let r : InRange (pos 101) = omega arith in flat-outside base currency (pos 101) different r;
  deficiency = λ base currency different. let r : InRange (negsuc 100) = omega arith in flat-outside base currency (negsuc 100) different r;
}

pub returns-clause-law : goal.returns-clause-law
returns-clause-law c = facts
