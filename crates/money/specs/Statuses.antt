-- Holidays: a currency is open, written 0, or shut, written 1.
use Rattle.std.specs.Prelude.{Bool, true, false, cond, ℤ, pos, negsuc, Some, None, Option, ◌==◌}
use Rattle.money.specs.declared.status.Status.{Status}
use Rattle.money.specs.declared.status.Status.TheVariants.{Open, Shut}

abbrev pub flag_of : Status → ℤ
flag_of Open = pos 0
flag_of Shut = pos 1

-- the status that a holiday flag gives, if it gives one
abbrev pub status_of : ℤ → Option Status
status_of (pos n) = cond (n == 0) (Some Open) (cond (n == 1) (Some Shut) None)
status_of (negsuc n) = None

abbrev pub is_open_status : Status → Bool
is_open_status Open = true
is_open_status Shut = false
