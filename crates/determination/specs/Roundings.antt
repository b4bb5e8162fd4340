-- Points turned into an amount at a rate.
use Rattle.std.specs.Prelude.{ℤ, pos, ◌+ℤ◌, ◌-ℤ◌, int_div}

-- points over rate, rounded up, where the points are not below 0
abbrev pub rounded_up : ℤ → ℤ → ℤ
rounded_up points rate = int_div (points +ℤ (rate -ℤ pos 1)) rate

-- points over rate, rounded down, where the points are not below 0
abbrev pub rounded_down : ℤ → ℤ → ℤ
rounded_down points rate = int_div points rate
