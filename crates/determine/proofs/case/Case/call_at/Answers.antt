use Rattle.std.proofs.Common.{◌≡◌, true, sym, subst, arith, rules}
use Rattle.std.proofs.lemmas.Int.{ints, clamps}
use Rattle.determination.specs.Determinations.{balance_in}
use Rattle.determination.specs.Roundings.{rounded_up}
use Rattle.determine.specs.Cases.{market_at, state_in}
use Rattle.determine.specs.Payments.{Turned}
use Rattle.determine.proofs.Payments.{call-turned}
use Rattle.determine.proofs.Rated.{is-rate}
use Rattle.determine.proofs.case.Case.call_at.Goals as goal

pub returns-clause-answer : goal.returns-clause-answer
returns-clause-answer c =
    let k = c.args.self.now in
    let opened : (market_at k).is_open c.args.currency ≡ true = search rules in
    let balanced : c.balance.result ≡ balance_in (state_in k) c.args.currency = search rules in
    let rounded : c.rounded_up.result ≡ rounded_up c.args.rest.count ((market_at k).rate c.args.currency) = search rules in
    rw (opened, ← rounded, ← balanced) (omega (arith, ints, clamps, c.min.ensures.value, c.max-short.ensures.value, c.balance.ensures.ranged))

pub returns-clause-turned : goal.returns-clause-turned
returns-clause-turned c =
    let k = c.args.self.now in
    subst (Turned c.args.rest.count ((market_at k).rate c.args.currency)) (sym (returns-clause-answer c))
    (call-turned (market_at k) (balance_in (state_in k)) c.args.rest.count c.args.currency (is-rate k.market.quotes k.market.rated c.args.currency) c.args.rest.rest)
