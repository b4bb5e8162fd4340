use Rattle.std.proofs.Common.{◌≡◌, length, drop, replicate, ℤ, pos}
use Rattle.money.specs.declared.currency.Currency.{Currency}
use Rattle.money.specs.Currencies.{currencies}
use Rattle.determination.specs.Walks.{rest_at_end}
use Rattle.determine.specs.Cases.{market_at, state_in}
use Rattle.determine.specs.Payments.{Takes}
use Rattle.determine.specs.Sizes.{EachFew}
use Rattle.determine.proofs.Listings.{walked}
use Rattle.determine.proofs.case.Case.walk.Given as goal

-- the walk from here on is the whole walk
abbrev pub invariant-loop-currency : goal.invariant-loop-currency
invariant-loop-currency g l =
    let rate = (market_at l.self).rate in
    let priority = (state_in l.self).priority in
    let later = drop l.currency-index priority in
    ((t : ℤ → Currency → ℤ) → Takes (goal.F-post g l.take) t →
    (rest_at_end t rate later l.rest.count ≡ rest_at_end t rate priority l.fn.points.count)
    × (walked t rate later l.rest.count l.amounts ≡ walked t rate priority l.fn.points.count (replicate (length currencies) (pos 0))))
    × EachFew l.amounts
    × (length l.amounts ≡ length currencies)
