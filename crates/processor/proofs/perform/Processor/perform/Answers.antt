use Rattle.std.proofs.Common.{rules}
use Rattle.processor.specs.Processors.{state_of}
use Rattle.processor.proofs.Admitted.{admits}
use Rattle.processor.proofs.perform.Processor.perform.Goals as goal

pub returns-clause-admitted : goal.returns-clause-admitted
returns-clause-admitted g c = admits g.V.Valuation.meaning (state_of c.args.self.now) c.args.line.now (search rules)
