use Rattle.std.proofs.Common.{◌≡◌, true, pos, sym, ap, ◌∙◌, subst, arith, w64, to_z, of_z, rules}
use Rattle.std.specs.Int.{int_min, int_max}
use Rattle.std.proofs.lemmas.Int.{ints, clamps}
use Rattle.determination.specs.Determinations.{balance_in, room_in}
use Rattle.determination.specs.Roundings.{rounded_down}
use Rattle.determine.specs.Cases.{market_at, state_in}
use Rattle.determine.specs.Payments.{Turned}
use Rattle.determine.proofs.Payments.{repayment-turned}
use Rattle.determine.proofs.Rated.{is-rate}
use Rattle.determine.proofs.case.Case.repayment_at.Goals as goal

pub returns-clause-answer : goal.returns-clause-answer
returns-clause-answer c =
    let k = c.args.self.now in
    let opened : (market_at k).is_open c.args.currency ≡ true = search rules in
    let balanced : c.balance.result ≡ balance_in (state_in k) c.args.currency = search rules in
    let roomed : c.room.result ≡ room_in (state_in k) c.args.currency = search rules in
    let rounded : c.rounded_down.result ≡ rounded_down c.args.rest.count ((market_at k).rate c.args.currency) = search rules in
    let free : c.min-free.result ≡ int_min c.balance.result c.room.result = omega (arith, ints, clamps, c.min-free.ensures.value) in
    let most : c.min.result ≡ int_min c.min-free.result c.rounded_down.result = omega (arith, ints, clamps, c.min.ensures.value) in
    let paid : to_z w64 (of_z w64 c.max.result) ≡ int_max c.min.result (pos 0) = omega (arith, ints, clamps, c.max.ensures.value) in
    rw (opened, ← rounded, ← balanced, ← roomed) (paid ∙ ap (λ z. int_max z (pos 0)) (most ∙ ap (λ z. int_min z c.rounded_down.result) free))

pub returns-clause-turned : goal.returns-clause-turned
returns-clause-turned c =
    let k = c.args.self.now in
    subst (Turned c.args.rest.count ((market_at k).rate c.args.currency)) (sym (returns-clause-answer c))
    (repayment-turned (market_at k) (balance_in (state_in k)) c.args.rest.count c.args.currency (is-rate k.market.quotes k.market.rated c.args.currency) c.args.rest.rest (room_in (state_in k)))
