-- What was given of the currencies, in lists of one kind each.
use Rattle.std.specs.Prelude.{List, map, ℤ, Option}
use Rattle.money.specs.declared.status.Status.{Status}
use Rattle.determine.specs.declared.quote.Quote.{Quote}

abbrev pub rates_of : List (Quote (Option ℤ)) → List (Option ℤ)
rates_of given = map (λ g. g.rate) given

abbrev pub statuses_of : List (Quote (Option ℤ)) → List Status
statuses_of given = map (λ g. g.status) given
