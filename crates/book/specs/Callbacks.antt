-- Callbacks, up to their ceilings.
use Rattle.std.specs.Prelude.{◌≡◌, ℕ, Bool, ◌&&◌, List, [], ◌∷◌, ℤ, is_some}
use Rattle.money.specs.declared.cause.AccountCause.TheVariants.{OutOfRange}
use Rattle.money.specs.declared.cause.BookCause.TheVariants.{Stopped}
use Rattle.money.specs.declared.cause.Cause.TheVariants.{Book, Account}
use Rattle.money.specs.Codes.{code_of}
use Rattle.money.specs.Options.{first_of}
use Rattle.money.specs.Ranges.{payment_range}
use Rattle.money.specs.Refusals.{Told}
use Rattle.request.specs.Causes.{outside, tells_of}
use Rattle.determination.specs.Standings.{standing}
use Rattle.valuation.specs.Valuations.{Valuation}
use Rattle.history.specs.Bookings.{has_number, held_under, is_stopped}
use Rattle.history.specs.States.{State, market_of}
use Rattle.book.specs.declared.book.callbacks.Granted.{Granted}
use Rattle.book.specs.Places.{Located}
use Rattle.book.specs.Standings.{missing_fault}

-- an optimization account is stopped
abbrev pub is_stopped_number : State → ℕ → Bool
is_stopped_number s number = is_some (first_of (λ o. has_number number o && o.stopped) s.optimizations)

-- what bars a callback on an account before its ceilings: its range, a missing rate, a stopped optimization account
abbrev pub callback_checks : State → List ℕ → List ℕ → ℤ → List (Bool × Told)
callback_checks s code currency amount =
    (outside payment_range amount, tells_of code currency (Account OutOfRange))
    ∷ missing_fault s (code_of code)
    ∷ (is_stopped s (held_under s (code_of code)), tells_of code currency (Book Stopped)) ∷ []

-- a callback that only its ceilings may stand against
pub record Grantable (v : Valuation) (s : State) (code currency : List ℕ) (amount : ℤ) (g : Granted) : Type 0 where
  pub located : Located s code currency g.at g.currency
  pub is_callback : g.callback ≡ record {
    amount = amount;
    rate = (market_of s).rate g.currency;
    standing = standing v (market_of s) located.held.lies.account;
  }
