-- How many points there can be.
use Rattle.std.specs.Prelude.{◌≤◌, ℤ, pos, ◌≤ℤ◌, unsigned_abs}

-- what one currency is worth, and what all of them are
abbrev pub OnePoints : ℤ → Type 0
OnePoints x = unsigned_abs x ≤ 800000000000000000

abbrev pub AllPoints : ℤ → Type 0
AllPoints x = unsigned_abs x ≤ 8000000000000000000

-- points that are short or over, or what rests of them
pub record Rest (x : ℤ) : Type 0 where
  pub low : pos 0 ≤ℤ x
  pub high : x ≤ℤ pos 8000000000000000000
