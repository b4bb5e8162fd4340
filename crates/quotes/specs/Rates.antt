-- Rates in book order, of which some may be missing.
use Rattle.std.specs.Prelude.{Bool, not, ◌&&◌, List, length, ℤ, pos, is_some, Some, None, Ok, Err, Option, Result, ◌==◌, slice_index_or}
use Rattle.std.specs.Option.{unwrap_or}
use Rattle.money.specs.declared.currency.Currency.{Currency}
use Rattle.money.specs.declared.status.Status.{Status}
use Rattle.money.specs.declared.status.Status.TheVariants.{Open}
use Rattle.money.specs.Currencies.{currencies, place}
use Rattle.money.specs.Options.{first_of, every}
use Rattle.money.specs.Ranges.{fine_rate}
use Rattle.money.specs.Statuses.{is_open_status}
use Rattle.determination.specs.Valuations.{Market}
use Rattle.determine.specs.declared.quote.Quote.{Quote}

-- as many as currencies, and each that was given in its range
abbrev pub are_quotes : List (Option ℤ) → Bool
are_quotes rates = length rates == length currencies && every fine_rate rates

abbrev pub rate_of : List (Option ℤ) → Currency → Option ℤ
rate_of rates c = slice_index_or rates (place c) None

-- the first currency in book order that has no rate
abbrev pub missing_in : List (Option ℤ) → Option Currency
missing_in rates = first_of (λ c. not (is_some (rate_of rates c))) currencies

-- the rate of a currency; 0 where there is none
abbrev pub given_rate : List (Option ℤ) → Currency → ℤ
given_rate rates c = unwrap_or (rate_of rates c) (pos 0)

-- the status of a currency
abbrev pub status_in : List Status → Currency → Status
status_in statuses c = slice_index_or statuses (place c) Open

-- the quote of a currency
abbrev pub quote_in : List (Option ℤ) → List Status → Currency → Quote ℤ
quote_in rates statuses c = record { rate = given_rate rates c; status = status_in statuses c }

-- the rates and the open currencies that a determination is made by
abbrev pub quoted_market : List (Option ℤ) → List Status → Market
quoted_market rates statuses = record { rate = given_rate rates; is_open = λ c. is_open_status (status_in statuses c) }

abbrev pub unless_missing : Option Currency → Market → Result Market Currency
unless_missing None market = Ok market
unless_missing (Some c) market = Err c

-- the market, if every currency has a rate; else the first that has none
abbrev pub quoted_answer : List (Option ℤ) → List Status → Result Market Currency
quoted_answer rates statuses = unless_missing (missing_in rates) (quoted_market rates statuses)
