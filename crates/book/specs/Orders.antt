-- The call that an order is.
use Rattle.history.specs.Calls.{Call, set_rate, set_holiday, open_account, set_limits, set_margin, deposit, settle, call_back}
use Rattle.request.specs.declared.order.Opening.{Opening}
use Rattle.request.specs.declared.order.Order.{Order}
use Rattle.request.specs.declared.order.Order.TheVariants.{Rate, Holiday, Opening as Open, Limits, Margin, Deposit, Settlement, Callback}

abbrev pub opening_call : Opening → Call
opening_call o = open_account o.code.now o.number o.base.now o.level o.setting o.priority.now

abbrev pub ordered : Order → Call
ordered (Rate currency rate) = set_rate currency.now rate
ordered (Holiday currency flag) = set_holiday currency.now flag
ordered (Open opening) = opening_call opening
ordered (Limits code currency limit excess) = set_limits code.now currency.now limit excess
ordered (Margin code currency requirement non_cash) = set_margin code.now currency.now requirement non_cash
ordered (Deposit code currency amount) = deposit code.now currency.now amount
ordered (Settlement code currency amount) = settle code.now currency.now amount
ordered (Callback code currency amount) = call_back code.now currency.now amount
