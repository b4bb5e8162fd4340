-- All points called in one currency, on top of calls that are listed.
use Rattle.std.proofs.Common.{◌≡◌, ℕ, zero, suc, Bool, true, false, cond, List, map, length, get_or, set, replicate, ℤ, pos, ◌+ℤ◌, Some, None, Option, sym, refl, ap, ◌∙◌, subst, arith, length-set}
use Rattle.std.proofs.lemmas.Int.{ints}
use Rattle.std.proofs.lemmas.Bool.{cond_both}
use Rattle.money.specs.declared.currency.Currency.{Currency}
use Rattle.money.specs.Currencies.{currencies, place, is_same}
use Rattle.money.proofs.EachCurrency.{same-currency, at_place}
use Rattle.determination.specs.Calls.{all_called_in}
use Rattle.determination.specs.Determinations.{amount_in}
use Rattle.determination.specs.Roundings.{rounded_up}
use Rattle.determination.specs.Valuations.{Market}
use Rattle.determine.specs.Points.{Rest}
use Rattle.determine.specs.Rates.{IsRate}
use Rattle.determine.specs.Sizes.{Small, EachSmall, Few, EachFew}
use Rattle.determine.proofs.Listings.{listed, amount-set}
use Rattle.determine.proofs.Payments.{up-few}

module _ (m : Market) (xs : List ℤ) (all : length xs ≡ length currencies) (r : ℤ) where
  pub none-besides : xs ≡ map (λ c. amount_in xs c +ℤ all_called_in m None r c) currencies
  none-besides = listed xs (λ c. amount_in xs c +ℤ all_called_in m None r c) all (λ c. omega (arith, ints))

  pub some-besides : (c : Currency) → set xs (place c) (amount_in xs c +ℤ rounded_up r (m.rate c)) ≡ map (λ d. amount_in xs d +ℤ all_called_in m (Some c) r d) currencies
  some-besides c =
      listed (set xs (place c) (amount_in xs c +ℤ rounded_up r (m.rate c))) _ (length-set xs (place c) (amount_in xs c +ℤ rounded_up r (m.rate c)) ∙ all)
      (λ d. amount-set xs c d (amount_in xs c +ℤ rounded_up r (m.rate c)) all ∙ by d (is_same c d) refl)
    where
      by : (d : Currency) (b : Bool) → is_same c d ≡ b →
          cond b (amount_in xs c +ℤ rounded_up r (m.rate c)) (amount_in xs d) ≡ amount_in xs d +ℤ cond b (rounded_up r (m.rate c)) (pos 0)
      by d true e = ap (λ k. amount_in xs k +ℤ rounded_up r (m.rate c)) (same-currency c d e)
      by d false e = omega (arith, ints)

-- before any call every amount is 0
zero-at : (n k : ℕ) → get_or (replicate n (pos 0)) k (pos 0) ≡ pos 0
zero-at zero k = refl
zero-at (suc n) zero = refl
zero-at (suc n) (suc k) = zero-at n k

pub zero-amount : (c : Currency) → amount_in (replicate (length currencies) (pos 0)) c ≡ pos 0
zero-amount c = zero-at (length currencies) (place c)

-- and so they are small
pub besides-small : (m : Market) (rated : (c : Currency) → IsRate (m.rate c)) (xs : List ℤ) (r : ℤ) (o : Option Currency) → EachFew xs → Rest r → EachSmall (map (λ c. amount_in xs c +ℤ all_called_in m o r c) currencies)
besides-small m rated xs r o few rest d =
    let w = few d in
    let b = all-few o in
    subst Small (sym (at_place (λ c. amount_in xs c +ℤ all_called_in m o r c) (pos 0) d)) (record { low = omega (arith, ints, w.low, b.low); high = omega (arith, ints, w.high, b.high) })
  where
    all-few : (o : Option Currency) → Few (all_called_in m o r d)
    all-few None = record { low = omega (arith, ints); high = omega (arith, ints) }
    all-few (Some c) = cond_both (is_same c d) (rounded_up r (m.rate c)) (pos 0) Few (λ _. up-few r (m.rate c) rest (rated c)) (λ _. record { low = omega (arith, ints); high = omega (arith, ints) })

-- an amount more
pub few-set : (xs : List ℤ) (c : Currency) (x : ℤ) → length xs ≡ length currencies → EachFew xs → Few x → EachFew (set xs (place c) x)
few-set xs c x all few one d = subst Few (sym (amount-set xs c d x all)) (cond_both (is_same c d) x (amount_in xs d) Few (λ _. one) (λ _. few d))
