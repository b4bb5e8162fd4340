-- The ranges of figures.
use Rattle.std.specs.Prelude.{Bool, true, ◌&&◌, ℤ, pos, neg_ℤ, Some, None, Option, int_le}
use Rattle.money.specs.declared.range.Range.{Range}

-- the most hundredths that any amount holds
abbrev pub bound : ℤ
bound = pos 100000000000

abbrev pub within : Range → ℤ → Bool
within range x = int_le range.low x && int_le x range.high

-- a rate, in ten-thousandths of the common money
abbrev pub rate_range : Range
rate_range = record { low = pos 1000; high = pos 999999 }

-- cash, requirement, non-cash value, limit and excess
abbrev pub figure_range : Range
figure_range = record { low = pos 0; high = bound }

-- open settlement, and a settlement that is booked
abbrev pub settlement_range : Range
settlement_range = record { low = neg_ℤ bound; high = bound }

-- a deposit or a callback
abbrev pub payment_range : Range
payment_range = record { low = pos 1; high = bound }

abbrev pub optimization_range : Range
optimization_range = record { low = pos 1; high = pos 999999 }

-- a rate that was given lies in its range
abbrev pub fine_rate : Option ℤ → Bool
fine_rate None = true
fine_rate (Some rate) = within rate_range rate
