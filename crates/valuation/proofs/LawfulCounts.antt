-- What follows from the laws, for every valuation.
use Rattle.std.proofs.Common.{◌≡◌, ◌*◌, ◌≤◌, Bool, true, ℤ, pos, negsuc, nat_abs, ◌≤ℤ◌, ⊎_elim, arith}
use Rattle.std.proofs.lemmas.Int.{ints}
use Rattle.std.proofs.lemmas.Bool.{cases_lt, cases_Bool}
use Rattle.money.specs.declared.currency.Currency.{Currency}
use Rattle.valuation.specs.Laws.{largest, InRange, Lawful}

module _ (counts : Currency → Currency → ℤ → ℤ) (admits : Currency → Bool) (laws : Lawful counts admits) (base currency : Currency) where
  small-within : (x : ℤ) → admits base ≡ true → InRange x → nat_abs (counts base currency x) ≤ 2 * nat_abs x
  small-within (pos n) admitted range =
      let h : pos 0 ≤ℤ pos n = omega (arith, ints) in
      omega (arith, ints, laws.surplus base currency (pos n) admitted range h)
  small-within (negsuc n) admitted range =
      let h : negsuc n ≤ℤ pos 0 = omega (arith, ints) in
      omega (arith, ints, laws.deficiency base currency (negsuc n) admitted range h)

  -- whatever the base and the amount, a count is at most double the amount
  pub count_small : (x : ℤ) → nat_abs (counts base currency x) ≤ 2 * nat_abs x
  count_small x =
      ⊎_elim
      (λ far. omega (arith, ints, laws.beyond base currency x far))
      (λ range. ⊎_elim (λ admitted. small-within x admitted range) (λ refused. omega (arith, ints, laws.unadmitted base currency x refused)) (cases_Bool (admits base)))
      (cases_lt largest (nat_abs x))
