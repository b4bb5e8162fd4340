-- What may be absent.
use Rattle.std.specs.Prelude.{Bool, List, Some, None, Option}
use Rattle.std.specs.List.{find, list_all}

-- go on with what is there
abbrev pub before : {X Y : Type 0} → Option X → (X → Option Y) → Option Y
before None f = None
before (Some x) f = f x

-- the first of a list that passes a test
abbrev pub first_of : {X : Type 0} → (X → Bool) → List X → Option X
first_of f xs = find f xs

-- whether all of a list pass a test
abbrev pub every : {X : Type 0} → (X → Bool) → List X → Bool
every f xs = list_all f xs
