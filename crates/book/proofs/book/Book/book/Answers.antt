use Rattle.std.proofs.Common.{Err, sym, refl, ap, ◌∙◌}
use Rattle.std.proofs.lemmas.Result.{err_from_is_err_and}
use Rattle.money.specs.Refusals.{refusal_of}
use Rattle.account.specs.Faults.{told as told_by_account}
use Rattle.request.specs.Faults.{told}
use Rattle.book.specs.Books.{meaning}
use Rattle.book.proofs.Booked.{booking-done, booking-stopped}
use Rattle.book.proofs.book.Book.book.Goals as goal

pub returns-in_err-at : goal.returns-in_err-at
returns-in_err-at g c =
    let p = err_from_is_err_and c.from_residual.result c.from_residual.ensures.1 in
    let d = booking-stopped (meaning c.args.self.now) c.args.code.now c.args.currency.now c.args.booking c.in_err-at.field-0.0 c.in_err-at.ensures.answer in
    record { answer = ap (refusal_of told) (p.1 ∙ ap Err p.2) ∙ d.0; after = d.1; valued = refl }

pub returns-in_err-book_at : goal.returns-in_err-book_at
returns-in_err-book_at g c =
    let p = err_from_is_err_and c.from_residual-in_err-book_at.result c.from_residual-in_err-book_at.ensures.1 in
    let d = booking-done (meaning c.args.self.now) c.args.code.now c.args.currency.now c.in_ok-at.at c.in_ok-at.currency c.in_ok-at.ensures.place c.args.booking c.book_at.result (meaning c.book_at.new.self) c.book_at.ensures.answer c.book_at.ensures.after in
    record { answer = ap (refusal_of told) (p.1 ∙ ap Err p.2) ∙ sym (ap (refusal_of told_by_account) c.in_err-book_at.was) ∙ d.0; after = d.1; valued = c.book_at.ensures.valued }

pub returns : goal.returns
returns g c =
    let d = booking-done (meaning c.args.self.now) c.args.code.now c.args.currency.now c.in_ok-at.at c.in_ok-at.currency c.in_ok-at.ensures.place c.args.booking c.book_at.result (meaning c.book_at.new.self) c.book_at.ensures.answer c.book_at.ensures.after in
    record { answer = sym (ap (refusal_of told_by_account) c.in_ok-book_at.was) ∙ d.0; after = d.1; valued = c.book_at.ensures.valued }
