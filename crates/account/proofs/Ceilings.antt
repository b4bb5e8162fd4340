-- What the ceilings of a callback say.
use Rattle.std.proofs.Common.{◌≡◌, ◌*◌, ◌^◌, ◌≤◌, true, ◌&&◌, ℤ, pos, negsuc, ◌-ℤ◌, ◌*ℤ◌, nat_abs, ◌≤ℤ◌, mul-le-mul, arith, w64, SFits}
use mir.Syntax.{w128}
use lib.Signed.{le_z}
use Rattle.std.proofs.lemmas.Int.{ints, clamps}
use Rattle.std.proofs.lemmas.Bool.{and_parts}
use Rattle.money.specs.Ranges.{within, figure_range, payment_range}
use Rattle.account.specs.declared.account.Figures.{Figures}
use Rattle.account.specs.Accounts.{Ranged}
use Rattle.account.specs.Amounts.{free_cash, standing_amount, is_worth_at_most, may_call_back}
use Rattle.account.proofs.Ranges.{le_test, within-says, within-from}

pub record Ceilings (f : Figures) (rate standing amount : ℤ) : Type 0 where
  pub free : amount ≤ℤ free_cash f
  pub stood : amount ≤ℤ standing_amount f
  pub worth : (amount *ℤ rate) ≤ℤ standing

-- of the three tests themselves
pub ceilings-tell : (f : Figures) (rate standing amount : ℤ) → (le_z amount (free_cash f) && le_z amount (standing_amount f) && le_z (amount *ℤ rate) standing) ≡ true → Ceilings f rate standing amount
ceilings-tell f rate standing amount e =
    let two = and_parts (le_z amount _ && le_z amount (standing_amount f)) (le_z (amount *ℤ rate) standing) e in
    let one = and_parts (le_z amount (free_cash f)) (le_z amount (standing_amount f)) two.0 in
    record { free = le_test _ _ one.0; stood = le_test _ _ one.1; worth = le_test _ _ two.1 }

pub ceilings-say : (f : Figures) (rate standing amount : ℤ) → may_call_back f rate standing amount ≡ true → Ceilings f rate standing amount
unfolding may_call_back is_worth_at_most
ceilings-say = ceilings-tell

-- the product of two numbers fits twice their bits
pub product_wide : (a b : ℤ) → SFits w64 a → SFits w64 b → SFits w128 (a *ℤ b)
product_wide a b f g = let s = size a b (omega (arith, ints)) (omega (arith, ints)) in omega (arith, ints)
  where
    size : (a b : ℤ) → nat_abs a ≤ 2 ^ 63 → nat_abs b ≤ 2 ^ 63 → nat_abs (a *ℤ b) ≤ 2 ^ 63 * 2 ^ 63
    size (pos a) (pos b) h k = let r = mul-le-mul h k in omega (arith, ints)
    size (pos a) (negsuc b) h k = let r = mul-le-mul h k in omega (arith, ints)
    size (negsuc a) (pos b) h k = let r = mul-le-mul h k in omega (arith, ints)
    size (negsuc a) (negsuc b) h k = let r = mul-le-mul h k in omega (arith, ints)

-- what is left of the cash is a figure
pub lowered : (f : Figures) (rate standing amount : ℤ) → Ranged f → within payment_range amount ≡ true → may_call_back f rate standing amount ≡ true → within figure_range (f.cash -ℤ amount) ≡ true
lowered f rate standing amount r payment granted =
    let p = within-says payment_range amount payment in
    let h = ceilings-say f rate standing amount granted in
    within-from figure_range (f.cash -ℤ amount) (omega (arith, ints, clamps, h.free, r.limit.low)) (omega (arith, ints, p.0, r.cash.high))
