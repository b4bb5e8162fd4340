use Rattle.processor.proofs.SheetLaws.{law}
use Rattle.processor.proofs.perform.transcript.Goals as goal

pub returns-in_err-processor-clause-law : goal.returns-in_err-processor-clause-law
returns-in_err-processor-clause-law g c = law _ _ _

pub returns-in_err-tell-clause-law : goal.returns-in_err-tell-clause-law
returns-in_err-tell-clause-law g c = law _ _ _

pub returns-clause-law : goal.returns-clause-law
returns-clause-law g c = law _ _ _
