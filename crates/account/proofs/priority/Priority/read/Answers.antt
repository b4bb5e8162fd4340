use Rattle.std.proofs.Common.{◌≡◌, Some, None, sym, ap, ◌∙◌}
use Rattle.money.specs.Options.{before}
use Rattle.account.specs.Orders.{order_in, each_once, of_all}
use Rattle.account.proofs.Namings.{priority-of-all}
use Rattle.account.proofs.priority.Priority.read.Goals as goal

pub returns-in_err-read_order : goal.returns-in_err-read_order
returns-in_err-read_order c =
    let read : of_all c.args.text.now ≡ None = sym c.read_order.ensures ∙ c.in_err-read_order.was in
    ap order_in c.from_residual.ensures ∙ sym (ap (λ o. before o each_once) read) ∙ priority-of-all c.args.text.now

pub returns : goal.returns
returns c =
    let read : of_all c.args.text.now ≡ Some c.in_ok-read_order.field-0 = sym c.read_order.ensures ∙ c.in_ok-read_order.was in
    c.of_order.ensures ∙ sym (ap (λ o. before o each_once) read) ∙ priority-of-all c.args.text.now
