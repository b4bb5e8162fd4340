-- A valuation that counts nothing beyond the range keeps the laws if its counts are fair within.
use Rattle.std.specs.Prelude.{◌≡◌, Bool, true, ℤ, pos, ◌+ℤ◌, ◌-ℤ◌, unsigned_abs}
use Rattle.std.proofs.Common.{arith}
use Rattle.std.proofs.lemmas.Int.{ints}
use Rattle.std.proofs.lemmas.Bool.{and_from, and_left, and_right, cond-true, cond-false, le-leb, lt-leb}
use Rattle.money.specs.declared.currency.Currency.{Currency}
use Rattle.valuation.specs.Laws.{largest, InRange, Lawful}
use Rattle.valuation.specs.Counts.{limited}
use Rattle.valuation.specs.LawsBySign.{Fair}

module _ (admits : Currency → Bool) (counts : Currency → Currency → ℤ → ℤ) where
  -- within the range nothing is cut
  pub limited-within : (base currency : Currency) (x : ℤ) → admits base ≡ true → InRange x → limited admits counts base currency x ≡ counts base currency x
  limited-within base currency x admitted range = cond-true _ _ _ (and_from _ _ admitted (le-leb (unsigned_abs x) largest range))

  pub limited-lawful : ((base currency : Currency) → admits base ≡ true → Fair (counts base currency)) → ((base : Currency) (x : ℤ) → admits base ≡ true → counts base base x ≡ x) → Lawful (limited admits counts) admits
  limited-lawful fair itself = record {
    zero = λ b c a. let r : InRange (pos 0) = omega arith in rw (limited-within b c (pos 0) a r) (fair b c a).zero;
    in_base = λ b x a r. rw (limited-within b b x a r) (itself b x a);
    rising = λ b c x y a r s h. rw (limited-within b c x a r, limited-within b c y a s) ((fair b c a).rising x y h);
    surplus = λ b c x a r h. rw (limited-within b c x a r) ((fair b c a).surplus x h);
    deficiency = λ b c x a r h. rw (limited-within b c x a r) ((fair b c a).deficiency x h);
    taking = λ b c x w a r h k.
        let s : InRange (x -ℤ w) = omega (arith, ints) in
        rw (limited-within b c x a r, limited-within b c (x -ℤ w) a s) ((fair b c a).taking x w h k);
    paying = λ b c x w a r h k.
        let s : InRange (x +ℤ w) = omega (arith, ints) in
        rw (limited-within b c x a r, limited-within b c (x +ℤ w) a s) ((fair b c a).paying x w h k);
    beyond = λ b c x far. cond-false _ _ _ (and_right (admits b) _ (lt-leb (unsigned_abs x) largest far));
    unadmitted = λ b c x refused. cond-false _ _ _ (and_left (admits b) _ refused);
  }
