-- Lists all of whose members pass a test, by place.
use Rattle.std.proofs.Common.{◌≡◌, ℕ, ◌<◌, Bool, true, List, length, get_or, set}
use Rattle.std.proofs.lemmas.List.Elements.{All-get_or, All-set}
use Rattle.std.proofs.lemmas.List.Sums.{AllPass-from_list_all, list_all-from_AllPass}
use Rattle.money.specs.Options.{every}

pub every-at-place : {X : Type 0} (f : X → Bool) (xs : List X) (i : ℕ) (d : X) → every f xs ≡ true → i < length xs → f (get_or xs i d) ≡ true
every-at-place f xs i d all lt = All-get_or (λ x. f x ≡ true) xs i d lt (AllPass-from_list_all f xs all)

pub every_set : {X : Type 0} (f : X → Bool) (xs : List X) (i : ℕ) (y : X) → every f xs ≡ true → f y ≡ true → every f (set xs i y) ≡ true
every_set f xs i y all is = list_all-from_AllPass f (set xs i y) (All-set (λ x. f x ≡ true) xs i y is (AllPass-from_list_all f xs all))
