-- What every book that has a history behind it keeps, besides the law: what the proofs of the law go by.
use Rattle.std.proofs.Common.{◌≡◌, true, map, length, None}
use Rattle.money.specs.Currencies.{currencies}
use Rattle.money.specs.Options.{every}
use Rattle.money.specs.Ranges.{fine_rate}
use Rattle.account.specs.Accounts.{sound}
use Rattle.determination.specs.Determinations.{determination}
use Rattle.valuation.specs.Valuations.{Valuation}
use Rattle.history.specs.Runs.{first_past_bound}
use Rattle.history.specs.States.{State, is_running, market_of, missing_rate}

-- an open run found every rate and no call past the bound, and what it determined is kept
pub record Tied (v : Valuation) (s : State) : Type 0 where
  pub rated : missing_rate s ≡ None
  pub payable : first_past_bound v (market_of s) s.accounts ≡ None
  pub kept : s.kept ≡ map (determination v (market_of s)) s.accounts

pub record Invariant (v : Valuation) (s : State) : Type 0 where
  pub sound : every sound s.accounts ≡ true
  pub admitted : every (λ a. v.admits a.base) s.accounts ≡ true
  pub rates : every fine_rate s.rates ≡ true
  pub rate_for_each : length s.rates ≡ length currencies
  pub tied : is_running s ≡ true → Tied v s
