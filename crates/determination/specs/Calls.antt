-- Calls and repayments, from the balances x of an account, its priority and the points that are short or over.
use Rattle.std.specs.Prelude.{cond, List, ◌∷◌, ℤ, pos, ◌+ℤ◌, Some, None, Option}
use Rattle.std.specs.Int.{int_min}
use Rattle.money.specs.declared.currency.Currency.{Currency}
use Rattle.money.specs.Currencies.{is_same}
use Rattle.money.specs.Options.{first_of}
use Rattle.account.specs.Amounts.{surplus_of, deficiency_of}
use Rattle.determination.specs.Roundings.{rounded_up, rounded_down}
use Rattle.determination.specs.Valuations.{Market}
use Rattle.determination.specs.Walks.{rest_at_end, taken}

-- the call in an open currency: the lesser of its deficiency and of the points, rounded up
abbrev pub call_at : Market → (Currency → ℤ) → ℤ → Currency → ℤ
call_at m x r c = cond (m.is_open c) (int_min (deficiency_of (x c)) (rounded_up r (m.rate c))) (pos 0)

-- all points called in one currency, rounded up
abbrev pub all_called_in : Market → Option Currency → ℤ → Currency → ℤ
all_called_in m None r d = pos 0
all_called_in m (Some c) r d = cond (is_same c d) (rounded_up r (m.rate c)) (pos 0)

-- setting 1: through the currencies by priority, and what still rests in the first open one besides
abbrev pub call_by_margin : Market → (Currency → ℤ) → List Currency → ℤ → Currency → ℤ
call_by_margin m x priority r d =
    taken (call_at m x) m.rate priority r d
    +ℤ all_called_in m (first_of m.is_open priority) (rest_at_end (call_at m x) m.rate priority r) d

-- setting 2: all in the base, or in the first open currency if the base is shut
abbrev pub call_in_base : Market → Currency → List Currency → ℤ → Currency → ℤ
call_in_base m base priority r d = all_called_in m (first_of m.is_open (base ∷ priority)) r d

-- the repayment in an open currency: the least of its surplus, of what may leave, and of the points, rounded down
abbrev pub repayment_at : Market → (Currency → ℤ) → (Currency → ℤ) → ℤ → Currency → ℤ
repayment_at m x rooms r c = cond (m.is_open c) (surplus_of (int_min (int_min (x c) (rooms c)) (rounded_down r (m.rate c)))) (pos 0)

-- through the currencies by priority
abbrev pub repayment_by : Market → (Currency → ℤ) → (Currency → ℤ) → List Currency → ℤ → Currency → ℤ
repayment_by m x rooms priority r d = taken (repayment_at m x rooms) m.rate priority r d
