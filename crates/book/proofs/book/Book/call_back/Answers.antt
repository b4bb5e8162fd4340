use Rattle.std.proofs.Common.{Err, sym, refl, ap, ◌∙◌, subst, w64, SFits, rules}
use Rattle.std.proofs.lemmas.Result.{err_from_is_err_and}
use Rattle.std.proofs.lemmas.Int.{to_z-of_z}
use Rattle.money.specs.Refusals.{refusal_of}
use Rattle.account.specs.Faults.{told as told_by_account}
use Rattle.request.specs.Faults.{told}
use Rattle.history.specs.Bookings.{account_faults}
use Rattle.book.specs.Books.{meaning}
use Rattle.book.specs.Callbacks.{callback_checks, Grantable}
use Rattle.book.proofs.CalledBack.{callback-stopped, callback-done}
use Rattle.book.proofs.book.Book.call_back.Goals as goal

pub returns-in_err-granted : goal.returns-in_err-granted
returns-in_err-granted g c =
    let v = g.V.Valuation.meaning in
    let s = meaning c.args.self.now in
    let p = err_from_is_err_and c.from_residual.result c.from_residual.ensures.1 in
    let amount_fits : SFits w64 c.args.amount = search rules in
    let refusal = c.in_err-granted.ensures.answer ∙ ap (λ a. account_faults s c.args.code.now c.args.currency.now (callback_checks s c.args.code.now c.args.currency.now a)) (to_z-of_z w64 c.args.amount amount_fits) in
    let d = callback-stopped v s c.args.code.now c.args.currency.now c.args.amount (told c.in_err-granted.field-0.0) refusal in
    record { answer = ap (refusal_of told) (p.1 ∙ ap Err p.2) ∙ d.0; after = d.1; valued = refl }

pub returns-in_err-book_at : goal.returns-in_err-book_at
returns-in_err-book_at g c =
    let v = g.V.Valuation.meaning in
    let s = meaning c.args.self.now in
    let p = err_from_is_err_and c.from_residual-in_err-book_at.result c.from_residual-in_err-book_at.ensures.1 in
    let amount_fits : SFits w64 c.args.amount = search rules in
    let amount = to_z-of_z w64 c.args.amount amount_fits in
    let granted = subst (λ a. Grantable v s c.args.code.now c.args.currency.now a c.in_ok-granted.granted) amount c.in_ok-granted.ensures.callback in
    let none = c.in_ok-granted.ensures.answer ∙ ap (λ a. account_faults s c.args.code.now c.args.currency.now (callback_checks s c.args.code.now c.args.currency.now a)) amount in
    let d = callback-done v s c.args.code.now c.args.currency.now c.args.amount c.in_ok-granted.granted granted none c.book_at.result (meaning c.book_at.new.self) c.book_at.ensures.answer c.book_at.ensures.after in
    record { answer = ap (refusal_of told) (p.1 ∙ ap Err p.2) ∙ sym (ap (refusal_of told_by_account) c.in_err-book_at.was) ∙ d.0; after = d.1; valued = c.book_at.ensures.valued }

pub returns : goal.returns
returns g c =
    let v = g.V.Valuation.meaning in
    let s = meaning c.args.self.now in
    let amount_fits : SFits w64 c.args.amount = search rules in
    let amount = to_z-of_z w64 c.args.amount amount_fits in
    let granted = subst (λ a. Grantable v s c.args.code.now c.args.currency.now a c.in_ok-granted.granted) amount c.in_ok-granted.ensures.callback in
    let none = c.in_ok-granted.ensures.answer ∙ ap (λ a. account_faults s c.args.code.now c.args.currency.now (callback_checks s c.args.code.now c.args.currency.now a)) amount in
    let d = callback-done v s c.args.code.now c.args.currency.now c.args.amount c.in_ok-granted.granted granted none c.book_at.result (meaning c.book_at.new.self) c.book_at.ensures.answer c.book_at.ensures.after in
    record { answer = sym (ap (refusal_of told_by_account) c.in_ok-book_at.was) ∙ d.0; after = d.1; valued = c.book_at.ensures.valued }
