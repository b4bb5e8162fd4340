-- What quotes in memory hold.
use Rattle.std.specs.Prelude.{List, ℤ, Some, Ok, Err, Option, Result, slice_set}
use Rattle.money.specs.declared.currency.Currency.{Currency}
use Rattle.money.specs.declared.status.Status.{Status}
use Rattle.money.specs.Currencies.{place}
use Rattle.account.specs.Faults.{AccountFault}
use Rattle.determination.specs.Valuations as meant
use Rattle.determine.specs.declared.market.Market.{Market}
use Rattle.determine.specs.Markets.{market_in}
use Rattle.quotes.specs.declared.quotes.Quotes.{Quotes}
use Rattle.quotes.specs.Given.{rates_of, statuses_of}

abbrev pub rates_in : Quotes → List (Option ℤ)
rates_in q = rates_of q.given

abbrev pub statuses_in : Quotes → List Status
statuses_in q = statuses_of q.given

-- the rates after one was given, or refused
abbrev pub chosen_rates : Result Unit AccountFault → List (Option ℤ) → Currency → ℤ → List (Option ℤ)
chosen_rates (Ok done) rates c rate = slice_set rates (place c) (Some rate)
chosen_rates (Err fault) rates c rate = rates

-- what a market in memory means, or the currency that it lacks
abbrev pub quoted_by : Result Market Currency → Result meant.Market Currency
quoted_by (Ok market) = Ok (market_in market)
quoted_by (Err c) = Err c
