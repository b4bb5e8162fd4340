use Rattle.std.proofs.Common.{is_ok, ap, arith, take_all}
use Rattle.std.proofs.Output.{writes_in_calls_nil, has_written_append, has_written_of_eq}
use Rattle.money.specs.declared.currency.Currency.TheVariants.{Gbp}
use Rattle.account.specs.Priorities.{letters_all}
use Rattle.records.proofs.FieldLaws.{letters-more}
use Rattle.records.proofs.ending.write_letters.Goals as goal

pub loop-currency-init : goal.loop-currency-init
loop-currency-init g c plain = record { wrote = writes_in_calls_nil _ _; plain = plain }

pub loop-currency-preserved : goal.loop-currency-preserved
loop-currency-preserved g c plain =
    let so_far = c.loop-currency.invariant plain in
    let more = c.write.ensures.writes so_far.plain (ap is_ok c.in_ok-write.was) in
    has_written_of_eq _ _ _ _ _ (letters-more c.args.order.now c.loop-currency.currency-index Gbp (omega arith)) (has_written_append _ _ _ _ _ _ so_far more)

pub returns : goal.returns
returns g c plain ok =
    has_written_of_eq _ _ _ _ _ (ap letters_all (take_all c.loop-currency.currency-index c.args.order.now (omega arith))) (c.loop-currency.invariant plain)
