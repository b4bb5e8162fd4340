-- What points are turned into, by a step that takes an amount in a currency while points rest.
use Rattle.std.specs.Prelude.{◌≡◌, ℤ, pos, ◌+ℤ◌, ◌*ℤ◌, ◌≤ℤ◌}
use Rattle.money.specs.declared.currency.Currency.{Currency}
use Rattle.determination.specs.Valuations.{Market}
use Rattle.determine.specs.declared.points.Points.{Points}

-- an amount that points are turned into, and that is worth less than one rate more than they are
pub record Turned (r rate w : ℤ) : Type 0 where
  pub low : pos 0 ≤ℤ w
  pub high : w ≤ℤ pos 8000000000001000
  pub from_zero : pos 0 ≤ℤ (w *ℤ rate)
  pub within : (w *ℤ rate) ≤ℤ (r +ℤ pos 999999)

-- whatever a step takes is such an amount
abbrev pub EachTurned : (Points → Currency → ℤ → Type 0) → Market → Type 0
EachTurned step m = (r : Points) (c : Currency) (w : ℤ) → step r c w → Turned r.count (m.rate c) w

-- what a step takes is given by t
abbrev pub Takes : (Points → Currency → ℤ → Type 0) → (ℤ → Currency → ℤ) → Type 0
Takes step t = (r : Points) (c : Currency) (w : ℤ) → step r c w → w ≡ t r.count c
