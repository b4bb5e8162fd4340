-- The call that an order is, is that of the line which the order says.
use Rattle.std.proofs.Common.{◌≡◌, refl}
use Rattle.request.specs.declared.order.Order.{Order}
use Rattle.request.specs.declared.order.Order.TheVariants.{Rate, Holiday, Opening, Limits, Margin, Deposit, Settlement, Callback}
use Rattle.book.specs.Orders.{ordered}
use Rattle.lines.specs.Entries.{meant}
use Rattle.processor.specs.Performances.{call_of}

pub ordered_meant : (o : Order) → ordered o ≡ call_of (meant o)
ordered_meant (Rate k x) = refl
ordered_meant (Holiday k x) = refl
ordered_meant (Opening o) = refl
ordered_meant (Limits c k x y) = refl
ordered_meant (Margin c k x y) = refl
ordered_meant (Deposit c k x) = refl
ordered_meant (Settlement c k x) = refl
ordered_meant (Callback c k x) = refl
