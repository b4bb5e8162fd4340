-- Rates that were given stay in their range, and make a market once none is missing.
use Rattle.std.proofs.Common.{◌≡◌, ℕ, true, cond, not, ◌&&◌, eqb, List, [], ◌∷◌, map, length, set, ℤ, pos, is_some, Some, None, Option, unwrap_or, refl, ap, ◌∙◌, arith, length-set, eq-eqb, eqb-true}
use Rattle.std.proofs.lemmas.Bool.{and_parts, and_from}
use Rattle.money.specs.declared.currency.Currency.{Currency}
use Rattle.money.specs.declared.status.Status.{Status}
use Rattle.money.specs.declared.status.Status.TheVariants.{Open}
use Rattle.money.specs.Currencies.{currencies, place}
use Rattle.money.specs.Options.{first_of, every}
use Rattle.money.specs.Ranges.{within, rate_range, fine_rate}
use Rattle.money.proofs.EachCurrency.{at_place, place-within}
use Rattle.account.proofs.Lists.{every-at-place, every_set}
use Rattle.money.specs.Statuses.{is_open_status}
use Rattle.determine.specs.Rates.{is_rated, quote_of, market_by, market_answer}
use Rattle.quotes.specs.Rates.{are_quotes, rate_of, missing_in, quote_in, quoted_market}

pub quotes-set : (rates : List (Option ℤ)) (i : ℕ) (rate : ℤ) → are_quotes rates ≡ true → within rate_range rate ≡ true → are_quotes (set rates i (Some rate)) ≡ true
quotes-set rates i rate are fine =
    let p = and_parts (eqb (length rates) (length currencies)) (every fine_rate rates) are in
    and_from _ _ (eq-eqb _ _ (length-set rates i (Some rate) ∙ eqb-true _ _ p.0)) (every_set fine_rate rates i (Some rate) p.1 fine)

module _ (rates : List (Option ℤ)) (are : are_quotes rates ≡ true) where
  fine : (c : Currency) → fine_rate (rate_of rates c) ≡ true
  fine c =
      let p = and_parts (eqb (length rates) (length currencies)) (every fine_rate rates) are in
      every-at-place fine_rate rates (place c) None p.1 (omega (arith, eqb-true _ _ p.0, place-within c))

  all-given : (statuses : List Status) (cs : List Currency) → first_of (λ c. not (is_some (rate_of rates c))) cs ≡ None → every is_rated (map (quote_in rates statuses) cs) ≡ true
  all-given statuses [] none = refl
  all-given statuses (c ∷ cs) none = by (rate_of rates c) (fine c) (all-given statuses cs) none
    where
      by : (o : Option ℤ) → fine_rate o ≡ true → (first_of (λ c. not (is_some (rate_of rates c))) cs ≡ None → every is_rated (map (quote_in rates statuses) cs) ≡ true) → cond (not (is_some o)) (Some c) (first_of (λ c. not (is_some (rate_of rates c))) cs) ≡ None → (within rate_range (unwrap_or o (pos 0)) && every is_rated (map (quote_in rates statuses) cs)) ≡ true
      by None is later e = let z : ◌≡◌ {A = ℕ} 0 1 = cc in absurd (omega arith)
      by (Some rate) is later e = and_from _ _ is (later e)

  pub rates-given : (statuses : List Status) → missing_in rates ≡ None → every is_rated (map (quote_in rates statuses) currencies) ≡ true
  rates-given statuses none = all-given statuses currencies none

pub market-same : (rates : List (Option ℤ)) (statuses : List Status) → market_by (map (quote_in rates statuses) currencies) ≡ quoted_market rates statuses
market-same rates statuses =
    let same : (c : Currency) → quote_of (map (quote_in rates statuses) currencies) c ≡ quote_in rates statuses c = λ c. at_place (quote_in rates statuses) (record { rate = pos 0; status = Open }) c in
    λ i. record { rate = λ c. (same c i).rate; is_open = λ c. is_open_status (same c i).status }

-- and so a market is made of rates of which none is missing
pub market-made : (rates : List (Option ℤ)) → are_quotes rates ≡ true → (statuses : List Status) → missing_in rates ≡ None → market_answer (map (quote_in rates statuses) currencies) ≡ Some (quoted_market rates statuses)
market-made rates are statuses none =
    ap (λ b. cond b (Some (market_by (map (quote_in rates statuses) currencies))) None) (rates-given rates are statuses none) ∙ ap Some (market-same rates statuses)
