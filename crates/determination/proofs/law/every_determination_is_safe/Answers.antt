use Rattle.determination.proofs.DeterminationLaws.{every-determination}
use Rattle.determination.proofs.law.every_determination_is_safe.Goals as goal

pub returns : goal.returns
returns c = every-determination
