-- What a fault of a line tells.
use Rattle.std.specs.Prelude.{None}
use Rattle.money.specs.declared.cause.Cause.TheVariants.{LineForm}
use Rattle.money.specs.Refusals.{Told, tells}
use Rattle.request.specs.declared.fault.BookFault.{BookFault}
use Rattle.request.specs.Faults.{told as told_by_book}
use Rattle.lines.specs.declared.fault.SheetFault.{SheetFault}
use Rattle.lines.specs.declared.fault.SheetFault.TheVariants.{Form, Book}

-- a line that has the form of none tells neither code nor currency
abbrev pub no_form : Told
no_form = tells LineForm None None

abbrev pub told : SheetFault → Told
told Form = no_form
told (Book f) = told_by_book f

-- a fault of the book passes upward with all its parts
abbrev pub of_book : BookFault → SheetFault
of_book f = Book f
