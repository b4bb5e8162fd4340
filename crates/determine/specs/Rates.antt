-- Rates, and the market that they make.
use Rattle.std.specs.Prelude.{Bool, cond, ◌&&◌, List, length, ℤ, pos, ◌≤ℤ◌, Some, None, Option, ◌==◌, slice_index_or}
use Rattle.money.specs.declared.currency.Currency.{Currency}
use Rattle.money.specs.declared.status.Status.TheVariants.{Open}
use Rattle.money.specs.Currencies.{currencies, place}
use Rattle.money.specs.Options.{every}
use Rattle.money.specs.Ranges.{within, rate_range}
use Rattle.money.specs.Statuses.{is_open_status}
use Rattle.determination.specs.Valuations.{Market}
use Rattle.determine.specs.declared.quote.Quote.{Quote}

-- whether the rate of a quote lies in its range
abbrev pub is_rated : Quote ℤ → Bool
is_rated q = within rate_range q.rate

-- as many quotes as currencies, the rate of each in its range
abbrev pub are_rates : List (Quote ℤ) → Bool
are_rates quotes = length quotes == length currencies && every is_rated quotes

-- a rate in its range, as orders of numbers
pub record IsRate (rate : ℤ) : Type 0 where
  pub low : pos 1000 ≤ℤ rate
  pub high : rate ≤ℤ pos 999999

-- the quote of a currency, in quotes that stand in book order
abbrev pub quote_of : List (Quote ℤ) → Currency → Quote ℤ
quote_of quotes c = slice_index_or quotes (place c) (record { rate = pos 0; status = Open })

-- the market of such quotes
abbrev pub market_by : List (Quote ℤ) → Market
market_by quotes = record { rate = λ c. (quote_of quotes c).rate; is_open = λ c. is_open_status (quote_of quotes c).status }

-- it is made of quotes whose rates lie in their range
abbrev pub market_answer : List (Quote ℤ) → Option Market
market_answer quotes = cond (every is_rated quotes) (Some (market_by quotes)) None
