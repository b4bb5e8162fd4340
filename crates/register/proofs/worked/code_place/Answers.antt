use Rattle.std.proofs.lemmas.Map.Lookups.{exact_bytes}
use Rattle.register.proofs.worked.code_place.Goals as goal

pub returns : goal.returns
returns c = c.find.ensures.place exact_bytes
