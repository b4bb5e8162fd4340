-- Amounts that the figures of one currency come to.
use Rattle.std.specs.Prelude.{Bool, ◌&&◌, ℤ, pos, ◌+ℤ◌, ◌-ℤ◌, ◌*ℤ◌, neg_ℤ, int_le}
use Rattle.std.specs.Int.{int_max}
use Rattle.account.specs.declared.account.Figures.{Figures}

-- an amount where it is above 0, and where it is below
abbrev pub surplus_of : ℤ → ℤ
surplus_of x = int_max x (pos 0)

abbrev pub deficiency_of : ℤ → ℤ
deficiency_of x = int_max (neg_ℤ x) (pos 0)

-- the part of open settlement due to the house, and the part due to the participant
abbrev pub due_to_house : Figures → ℤ
due_to_house f = surplus_of f.settlement

abbrev pub due_to_participant : Figures → ℤ
due_to_participant f = deficiency_of f.settlement

-- cash above the limit, and non-cash value above the requirement: what an account stands on
abbrev pub standing_amount : Figures → ℤ
standing_amount f = (f.cash -ℤ f.limit) +ℤ (f.non_cash -ℤ f.requirement)

-- cash above the limit that is not due to the house
abbrev pub free_cash : Figures → ℤ
free_cash f = (f.cash -ℤ f.limit) -ℤ due_to_house f

-- whether an amount is worth at most so many points, at a rate
unfoldable pub is_worth_at_most : ℤ → ℤ → ℤ → Bool
is_worth_at_most amount rate points = int_le (amount *ℤ rate) points

-- whether an amount may be called back at a rate, by its three ceilings: the free cash, the amount that the account stands on
-- in that currency, and the standing
unfoldable pub may_call_back : Figures → ℤ → ℤ → ℤ → Bool
may_call_back f rate standing amount =
    int_le amount (free_cash f)
    && int_le amount (standing_amount f)
    && is_worth_at_most amount rate standing
