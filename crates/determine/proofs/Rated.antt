-- What a market says of its rates.
use Rattle.std.proofs.Common.{ℤ, ◌≡◌, true, eqb, List, length, arith}
use Rattle.std.proofs.lemmas.Bool.{and_parts, eqb-true}
use Rattle.money.specs.declared.currency.Currency.{Currency}
use Rattle.money.specs.Currencies.{currencies, place}
use Rattle.money.specs.Options.{every}
use Rattle.money.specs.Ranges.{rate_range}
use Rattle.money.proofs.EachCurrency.{place-within}
use Rattle.account.proofs.Lists.{every-at-place}
use Rattle.account.proofs.Ranges.{within-says}
use Rattle.determine.specs.declared.quote.Quote.{Quote}
use Rattle.determine.specs.Rates.{is_rated, are_rates, quote_of, IsRate}

pub rate-within : (quotes : List (Quote ℤ)) → are_rates quotes ≡ true → (c : Currency) → is_rated (quote_of quotes c) ≡ true
rate-within quotes rated c =
    let p = and_parts (eqb (length quotes) (length currencies)) (every is_rated quotes) rated in
    every-at-place is_rated quotes (place c) _ p.1 (omega (arith, eqb-true _ _ p.0, place-within c))

pub is-rate : (quotes : List (Quote ℤ)) → are_rates quotes ≡ true → (c : Currency) → IsRate (quote_of quotes c).rate
is-rate quotes rated c = let p = within-says rate_range _ (rate-within quotes rated c) in record { low = p.0; high = p.1 }
