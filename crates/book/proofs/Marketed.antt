-- The market of a call, and what is told where it lacks a rate.
use Rattle.std.proofs.Common.{◌≡◌, ℕ, [], ◌∷◌, is_some, Some, None, Ok, Option, refl, arith}
use Rattle.money.specs.declared.cause.BookCause.TheVariants.{RateMissing}
use Rattle.money.specs.declared.cause.Cause.TheVariants.{Book}
use Rattle.money.specs.declared.code.Code.{Code}
use Rattle.money.specs.declared.currency.Currency.{Currency}
use Rattle.money.specs.Refusals.{Told, tells}
use Rattle.request.specs.Causes.{first_told}
use Rattle.determination.specs.Valuations.{Market}
use Rattle.quotes.specs.Rates.{unless_missing}
use Rattle.book.specs.Standings.{where_rated}

abbrev pub lack : Option Code → Option Currency → Option Told
lack code missing = first_told ((is_some missing, tells (Book RateMissing) code missing) ∷ [])

pub quoted : (missing : Option Currency) (m r : Market) → Ok r ≡ unless_missing missing m → r ≡ m
quoted None m r e = cc
quoted (Some c) m r e = let z : ◌≡◌ {A = ℕ} 0 1 = cc in absurd (omega arith)

-- where a rate is lacking nothing is answered, and where none is, something is
pub not-rated : {X : Type 0} (code : Option Code) (missing : Option Currency) (t : Told) (answer : Option X) → Some t ≡ lack code missing → where_rated missing answer ≡ None
not-rated code None t answer e = let z : ◌≡◌ {A = ℕ} 0 1 = cc in absurd (omega arith)
not-rated code (Some c) t answer e = refl

pub rated : {X : Type 0} (code : Option Code) (missing : Option Currency) (answer : Option X) → None ≡ lack code missing → answer ≡ where_rated missing answer
rated code None answer e = refl
rated code (Some c) answer e = let z : ◌≡◌ {A = ℕ} 0 1 = cc in absurd (omega arith)
