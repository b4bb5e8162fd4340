-- What a fault of the account layer tells.
use Rattle.std.specs.Prelude.{Option}
use Rattle.money.specs.declared.cause.AccountCause.{AccountCause}
use Rattle.money.specs.declared.cause.AccountCause.TheVariants.{OutOfRange}
use Rattle.money.specs.declared.cause.Cause.TheVariants.{Account}
use Rattle.money.specs.declared.code.Code.{Code}
use Rattle.money.specs.declared.currency.Currency.{Currency}
use Rattle.money.specs.declared.refusal.Fault.{Fault}
use Rattle.money.specs.Refusals.{Told, tells}

-- a fault of the account layer
abbrev pub AccountFault : Type 0
AccountFault = Fault AccountCause

abbrev pub told : AccountFault → Told
told f = tells (Account f.cause) f.code f.currency

abbrev pub out_of_range : Option Code → Option Currency → AccountFault
out_of_range code currency = record { cause = OutOfRange; code = code; currency = currency }
