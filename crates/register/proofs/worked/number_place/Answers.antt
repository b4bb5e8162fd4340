use Rattle.std.proofs.lemmas.Map.Lookups.{exact_unsigned}
use Rattle.register.proofs.worked.number_place.Goals as goal

pub returns : goal.returns
returns c = c.find.ensures.place exact_unsigned
