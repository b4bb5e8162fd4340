-- Where accounts stand.
use Rattle.std.specs.Prelude.{ℕ, Bool, List, ℤ, is_some, Some, None, Option}
use Rattle.money.specs.declared.cause.BookCause.TheVariants.{RateMissing}
use Rattle.money.specs.declared.cause.Cause.TheVariants.{Book}
use Rattle.money.specs.declared.code.Code.{Code}
use Rattle.money.specs.declared.currency.Currency.{Currency}
use Rattle.money.specs.Codes.{code_of}
use Rattle.money.specs.Options.{before}
use Rattle.money.specs.Refusals.{Told, tells}
use Rattle.determination.specs.Standings.{standing}
use Rattle.valuation.specs.Valuations.{Valuation}
use Rattle.history.specs.Bookings.{held_under}
use Rattle.history.specs.States.{State, market_of, missing_rate}

-- a rate that is missing is told in place of the call's currency
abbrev pub missing_fault : State → Option Code → Bool × Told
missing_fault s code = (is_some (missing_rate s), tells (Book RateMissing) code (missing_rate s))

abbrev pub where_rated : {X : Type 0} → Option Currency → Option X → Option X
where_rated None answer = answer
where_rated (Some c) answer = None

-- the standing of an account that is held, if no rate is missing
abbrev pub standing_answer : Valuation → State → List ℕ → Option ℤ
standing_answer v s code = before (held_under s (code_of code)) (λ a. where_rated (missing_rate s) (Some (standing v (market_of s) a)))
