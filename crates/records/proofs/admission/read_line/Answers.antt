use Rattle.std.proofs.Common.{Ok, rules}
use Rattle.records.proofs.AdmissionLaws.{exactly}
use Rattle.records.proofs.admission.read_line.Goals as goal

pub returns-clause-exact : goal.returns-clause-exact
returns-clause-exact c = exactly c.args.line.now (Ok c.in_ok-try_from.field-0) (search rules)
