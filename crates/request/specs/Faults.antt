-- What a fault of the book tells.
use Rattle.money.specs.declared.cause.Cause.TheVariants.{Book}
use Rattle.money.specs.Refusals.{Told, tells}
use Rattle.account.specs.Faults.{told as told_by_account}
use Rattle.request.specs.declared.fault.BookFault.{BookFault}
use Rattle.request.specs.declared.fault.BookFault.TheVariants.{Own, Account}

-- a fault of the account layer passes upward with all its parts
abbrev pub told : BookFault → Told
told (Own f) = tells (Book f.cause) f.code f.currency
told (Account f) = told_by_account f
