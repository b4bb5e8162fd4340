-- The lending norms keep the laws, by one test over their table.
use Rattle.std.specs.Prelude.{◌≡◌, ℕ, ◌-◌, ◌*◌, ◌/◌, ◌≤◌, Bool, true, cond, ◌&&◌, ℤ, pos, negsuc, ◌==◌, nat_le, refl}
use Rattle.std.proofs.Common.{sym, ◌∙◌, mul-le-mul_left, mul-le-mul_right, arith}
use Rattle.std.proofs.Math.Nat.{mul-sub}
use Rattle.std.proofs.lemmas.Int.{ints}
use Rattle.std.proofs.lemmas.Bool.{and_parts, cond-true, eqb-true, leb-true}
use Rattle.money.specs.declared.currency.Currency.{Currency}
use Rattle.money.specs.Currencies.{currencies}
use Rattle.money.specs.Options.{every}
use Rattle.money.proofs.EachCurrency.{each}
use Rattle.valuation.specs.Laws.{InRange, Lawful}
use Rattle.valuation.specs.Norms.{norm_admits, norm_of, at_norm, at_its_norm, norm_count}
use Rattle.valuation.specs.LawsBySign.{FairSides, sides-fair}
use Rattle.valuation.specs.LimitedLaws.{limited-within, limited-lawful}

-- THE TABLE

abbrev is_within : Currency → Currency → Bool
is_within base currency = nat_le (norm_of base currency) 100

abbrev is_whole_in_base : Currency → Bool
is_whole_in_base base = cond (norm_admits base) (norm_of base base == 100) true

-- no norm of the row is above 100, and that of the base itself is 100
abbrev is_sound : Currency → Bool
is_sound base = every (is_within base) currencies && is_whole_in_base base

-- the test over the whole table
sound : (base : Currency) → (every (is_within base) currencies ≡ true) × (is_whole_in_base base ≡ true)
sound base = and_parts (every (is_within base) currencies) (is_whole_in_base base) (each is_sound refl base)

norm-within : (base currency : Currency) → norm_of base currency ≤ 100
norm-within base currency = leb-true (norm_of base currency) 100 (each (is_within base) (sound base).0 currency)

norm-in-base : (base : Currency) → norm_admits base ≡ true → norm_of base base ≡ 100
norm-in-base base admitted = eqb-true (norm_of base base) 100 (sym (cond-true (norm_admits base) _ true admitted) ∙ (sound base).1)

-- ONE NORM

norm-sides : (norm : ℕ) → norm ≤ 100 → FairSides (λ n. norm * n / 100) (λ n. n)
norm-sides norm small = record {
  surplus-within = λ n. omega (arith, mul-le-mul_right n small);
  surplus-rises = λ m n h. omega (arith, mul-le-mul_left norm h);
  surplus-slow = λ m n h. omega (arith, mul-le-mul_left norm h, mul-sub norm n m, mul-le-mul_right (n - m) small);
  deficiency-within = λ n. omega arith;
  deficiency-steep = λ m n h. omega arith;
}

-- at a norm of 100 every amount counts as itself
whole : (x : ℤ) → at_norm 100 x ≡ x
whole (pos n) = omega (arith, ints)
whole (negsuc n) = refl

pub norms-lawful : Lawful norm_count norm_admits
unfolding norm_count
norms-lawful =
    limited-lawful norm_admits at_its_norm (λ base currency _. sides-fair _ _ (norm-sides (norm_of base currency) (norm-within base currency)))
    (λ base x admitted. rw (norm-in-base base admitted) (whole x))

-- under an admitted base an amount counts at the norm of its currency
pub norms-within : (base currency : Currency) (x : ℤ) → norm_admits base ≡ true → InRange x → norm_count base currency x ≡ at_norm (norm_of base currency) x
unfolding norm_count
norms-within base currency x admitted range = limited-within norm_admits at_its_norm base currency x admitted range
