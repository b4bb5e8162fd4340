use Rattle.std.proofs.Common.{◌≡◌, ◌*◌, ◌++◌, length, take, ap, sym, ◌∙◌, Some, None, arith, length-append, length-set, eq-eqb, ne_eqb}
use Rattle.money.specs.Currencies.{currencies, currency_of}
use Rattle.account.specs.Priorities.{named}
use Rattle.account.proofs.Namings.{after, named_more, named_none, named-all}
use Rattle.account.proofs.priority.calls.read_order.Goals as goal

pub returns-then-text : goal.returns-then-text
returns-then-text c = rw (ne_eqb (length c.args.text.now) (3 * length currencies) c.if-text.true)

pub returns-in_err-order : goal.returns-in_err-order
returns-in_err-order c =
    let text = c.args.text.now in
    let letters = c.in-Some.letters.now in
    let read = take c.loop-place.place-iterator.count c.loop-place.order in
    let cut = c.in-Some.ensures.steps.0.1 in
    let none : currency_of letters ≡ None = sym c.read.ensures ∙ c.in_err-order.was in
    let three = cut.1 ∙ c.loop-place.invariant.three in
    rw (eq-eqb (length text) (3 * length currencies) c.if-text.false)
    (c.from_residual.ensures ∙ sym (named_none text letters c.next.new.self.iter.rest.now read three (c.loop-place.invariant.named ∙ ap (λ t. after read (named t)) cut.0) none))

pub loop-place-preserved : goal.loop-place-preserved
loop-place-preserved c =
    let text = c.args.text.now in
    let letters = c.in-Some.letters.now in
    let rest = c.next.new.self.iter.rest.now in
    let order = c.loop-place.order in
    let place = c.in-Some.place in
    let k = c.in_ok-order.field-0 in
    let inv = c.loop-place.invariant in
    let step = c.in-Some.ensures.steps in
    let cut = step.0.1 in
    let three = cut.1 ∙ inv.three in
    let long = ap length cut.0 ∙ length-append letters rest in
    let some : currency_of letters ≡ Some k = sym c.read.ensures ∙ c.in_ok-order.was in
    let here : named text ≡ after (take place order) (named (letters ++ rest)) = rw step.1 (inv.named ∙ ap (λ t. after (take c.loop-place.place-iterator.count order) (named t)) cut.0) in
    record {
      named = rw (step.2, sym step.1) (named_more text letters rest order place k (omega (arith, step.1, inv.rest, inv.order, long, three)) three here some);
      rest = omega (arith, step.2, inv.rest, long, three);
      three = step.0.0 ∙ inv.three;
      order = length-set order place k ∙ inv.order;
    }

pub returns : goal.returns
returns c =
    let text = c.args.text.now in
    let at = c.loop-place.place-iterator in
    let inv = c.loop-place.invariant in
    let end = c.in-None.ensures.steps.0.1 in
    rw (eq-eqb (length text) (3 * length currencies) c.if-text.false)
    (sym (named-all text at.iter.rest.now c.loop-place.order at.count (omega (arith, end.0, inv.rest, inv.three)) (omega (arith, end.0, inv.rest, inv.three, inv.order)) inv.named))
