-- The life of a book, call by call.
use Rattle.std.specs.Prelude.{Some, None, Option}
use Rattle.money.specs.Refusals.{Told}
use Rattle.account.specs.Bookings.{with_limits, with_margin, deposit_booked, settlement_booked, callback_booked}
use Rattle.valuation.specs.Valuations.{Valuation}
use Rattle.history.specs.Bookings.{rate_refusal, rate_set, holiday_refusal, holiday_set, opening_refusal, opened, limits_refusal, margin_refusal, deposit_refusal, settlement_refusal, callback_refusal, booked, standing_refusal}
use Rattle.history.specs.Calls.{Call, set_rate, set_holiday, open_account, set_limits, set_margin, deposit, settle, call_back, cut_off, conclude, ask_standing}
use Rattle.history.specs.Runs.{cut_off_refusal, with_run, conclusion_refusal, with_conclusion}
use Rattle.history.specs.States.{State}

-- what a call is refused for: the first cause that applies, with all that it tells
abbrev pub refused : Valuation → State → Call → Option Told
refused v s (set_rate currency rate) = rate_refusal s currency rate
refused v s (set_holiday currency flag) = holiday_refusal s currency flag
refused v s (open_account code number base level setting priority) = opening_refusal v s code number base level setting priority
refused v s (set_limits code currency limit excess) = limits_refusal s code currency limit excess
refused v s (set_margin code currency requirement non_cash) = margin_refusal s code currency requirement non_cash
refused v s (deposit code currency amount) = deposit_refusal s code currency amount
refused v s (settle code currency amount) = settlement_refusal s code currency amount
refused v s (call_back code currency amount) = callback_refusal v s code currency amount
refused v s cut_off = cut_off_refusal v s
refused v s (conclude run failed) = conclusion_refusal s run failed
refused v s (ask_standing code) = standing_refusal s code

-- the book after a call that is not refused
abbrev pub changed : Valuation → State → Call → State
changed v s (set_rate currency rate) = rate_set s currency rate
changed v s (set_holiday currency flag) = holiday_set s currency flag
changed v s (open_account code number base level setting priority) = opened s code number base level setting priority
changed v s (set_limits code currency limit excess) = booked s code currency (with_limits limit excess)
changed v s (set_margin code currency requirement non_cash) = booked s code currency (with_margin requirement non_cash)
changed v s (deposit code currency amount) = booked s code currency (deposit_booked amount)
changed v s (settle code currency amount) = booked s code currency (settlement_booked amount)
changed v s (call_back code currency amount) = booked s code currency (callback_booked amount)
changed v s cut_off = with_run v s
changed v s (conclude run failed) = with_conclusion s failed
changed v s (ask_standing code) = s

-- a refusal leaves the book as it was
abbrev pub unless : Option Told → State → State → State
unless None s t = t
unless (Some told) s t = s

-- the book after a call
abbrev pub step : Valuation → State → Call → State
step v s call = unless (refused v s call) s (changed v s call)
