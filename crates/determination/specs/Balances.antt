-- The balance of an account in one currency.
use Rattle.std.specs.Prelude.{ℤ, pos, ◌+ℤ◌, ◌-ℤ◌}
use Rattle.std.specs.Int.{int_min, int_max}
use Rattle.account.specs.declared.account.Figures.{Figures}
use Rattle.account.specs.declared.terms.Level.{Level}
use Rattle.account.specs.declared.terms.Level.TheVariants.{MarginRequirement, CashOptimization}
use Rattle.account.specs.Amounts.{surplus_of, due_to_house, due_to_participant}

-- what is due to the house and covered by cash above the limit, at level 1
abbrev pub cover : Level → Figures → ℤ
cover MarginRequirement f = int_min (due_to_house f) (surplus_of (f.cash -ℤ f.limit))
cover CashOptimization f = pos 0

-- cash less cover, and what is due to the participant, at level 1
abbrev pub held_cash : Level → Figures → ℤ
held_cash MarginRequirement f = (f.cash -ℤ cover MarginRequirement f) +ℤ due_to_participant f
held_cash CashOptimization f = f.cash

-- held cash above the limit, and non-cash value above the requirement
abbrev pub balance : Level → Figures → ℤ
balance level f = (held_cash level f -ℤ f.limit) +ℤ (f.non_cash -ℤ f.requirement)

-- what of held cash may be repaid: what is above the limit and above the excess amount
abbrev pub room : Level → Figures → ℤ
room level f = held_cash level f -ℤ int_max f.limit f.excess
