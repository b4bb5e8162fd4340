use Rattle.register.proofs.worked.code_insertion_point.Goals as goal

pub returns : goal.returns
returns c = c.insertion_point.ensures.point
