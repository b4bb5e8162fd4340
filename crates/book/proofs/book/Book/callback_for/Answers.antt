use Rattle.std.proofs.Common.{◌≡◌, ◌<◌, true, length, Some, Err, vec_items, sym, ap, ◌∙◌, arith, w64, SFits, rules}
use Rattle.std.proofs.lemmas.Result.{err_from_is_err_and}
use Rattle.std.proofs.lemmas.Int.{to_z-of_z}
use Rattle.money.specs.Codes.{code_of}
use Rattle.money.specs.Ranges.{within, payment_range}
use Rattle.request.specs.declared.subject.Subject.{Subject}
use Rattle.request.specs.Faults.{told}
use Rattle.request.specs.Subjects.{fault_of}
use Rattle.determination.specs.Standings.{standing}
use Rattle.determination.specs.Valuations.{Market}
use Rattle.history.specs.Bookings.{is_stopped}
use Rattle.history.specs.States.{missing_rate}
use Rattle.money.specs.declared.cause.BookCause.TheVariants.{Stopped}
use Rattle.book.specs.Books.{meaning}
use Rattle.book.specs.Callbacks.{callback_checks, Grantable}
use Rattle.book.proofs.Asked.{row_lies}
use Rattle.book.proofs.Booked.{refused-first}
use Rattle.book.proofs.CalledBack.{lacks-rate, is-stopped, not_stopped}
use Rattle.book.proofs.Marketed.{lack}
use Rattle.book.proofs.Opened.{faulty}
use Rattle.book.proofs.Rooms.{accounts-length, rows-length}
use Rattle.book.proofs.book.Book.callback_for.Goals as goal

pub returns-in_err-at : goal.returns-in_err-at
returns-in_err-at g c =
    let v = g.V.Valuation.meaning in
    let s = meaning c.args.self.now in
    let code = c.args.code.now in
    let currency = c.args.currency.now in
    let p = err_from_is_err_and c.from_residual.result c.from_residual.ensures.1 in
    let e = sym (refused-first s code currency (callback_checks s code currency c.args.amount) (told c.in_err-at.field-0.0) (sym c.in_err-at.ensures.answer)) in
    let d = faulty c.from_residual.result c.in_err-at.field-0.0 _ (Grantable v s code currency c.args.amount) (p.1 ∙ ap Err p.2) e in
    record { answer = d.0; callback = d.1 }

pub returns-in_err-market : goal.returns-in_err-market
returns-in_err-market g c =
    let v = g.V.Valuation.meaning in
    let s = meaning c.args.self.now in
    let code = c.args.code.now in
    let currency = c.args.currency.now in
    let amount_fits : SFits w64 c.args.amount = search rules in
    let amount = to_z-of_z w64 c.args.amount amount_fits in
    let inside : within payment_range c.args.amount ≡ true = ap (within payment_range) (sym amount) ∙ c.in_ok-check.ensures.ok in
    let p = err_from_is_err_and c.from_residual-in_err-market.result c.from_residual-in_err-market.ensures.1 in
    let lacking : Some (told c.in_err-market.field-0.0) ≡ lack (code_of code) (missing_rate s) = c.in_err-market.ensures.answer ∙ ap (λ (subject : Subject). lack subject.code (missing_rate s)) c.read-subject.ensures in
    let e = lacks-rate s code currency c.in_ok-at.at c.in_ok-at.currency c.in_ok-at.ensures.place c.args.amount inside (told c.in_err-market.field-0.0) lacking in
    let d = faulty c.from_residual-in_err-market.result c.in_err-market.field-0.0 _ (Grantable v s code currency c.args.amount) (p.1 ∙ ap Err p.2) e in
    record { answer = d.0; callback = d.1 }

pub returns-then-is_stopped : goal.returns-then-is_stopped
returns-then-is_stopped g c =
    let s = meaning c.args.self.now in
    let code = c.args.code.now in
    let currency = c.args.currency.now in
    let place = c.in_ok-at.ensures.place in
    let amount_fits : SFits w64 c.args.amount = search rules in
    let amount = to_z-of_z w64 c.args.amount amount_fits in
    let inside : within payment_range c.args.amount ≡ true = ap (within payment_range) (sym amount) ∙ c.in_ok-check.ensures.ok in
    let rated = c.in_ok-market.ensures.answer ∙ ap (λ (subject : Subject). lack subject.code (missing_rate s)) c.read-subject.ensures in
    let stop = c.if-is_stopped.ensures place.held.lies.account ∙ ap (λ a. is_stopped s (Some a)) (place.held.lies.stands place.held.lies.account) in
    let e = is-stopped s code currency c.in_ok-at.at c.in_ok-at.currency place c.args.amount inside rated stop in
    record { answer = ap (λ f. Some (told f)) (c.fault.ensures ∙ ap (λ subject. fault_of subject Stopped) c.read-subject.ensures) ∙ e; callback = tt }

pub returns : goal.returns
returns g c =
    let v = g.V.Valuation.meaning in
    let b = c.args.self.now in
    let s = meaning b in
    let code = c.args.code.now in
    let currency = c.args.currency.now in
    let place = c.in_ok-at.ensures.place in
    let unit = c.in_ok-at.currency in
    let amount_fits : SFits w64 c.args.amount = search rules in
    let amount = to_z-of_z w64 c.args.amount amount_fits in
    let inside : within payment_range c.args.amount ≡ true = ap (within payment_range) (sym amount) ∙ c.in_ok-check.ensures.ok in
    let rated = c.in_ok-market.ensures.answer ∙ ap (λ (subject : Subject). lack subject.code (missing_rate s)) c.read-subject.ensures in
    let stop = c.if-is_stopped.ensures place.held.lies.account ∙ ap (λ a. is_stopped s (Some a)) (place.held.lies.stands place.held.lies.account) in
    let lt : c.in_ok-at.at < length (vec_items b.accounts.rows) = omega (arith, place.held.lies.within, accounts-length b, rows-length b, b.accounts.rows.ok.0) in
    let row = row_lies (vec_items b.accounts.rows) c.in_ok-at.at c.index.result.now _ place.held.lies.account c.index.ensures lt place.held.lies.stands in
    let rate_fits : SFits w64 c.rate.result = search rules in
    let standing_fits : SFits w64 c.standing.result = search rules in
    let rate = to_z-of_z w64 c.rate.result rate_fits ∙ c.rate.ensures.answer ∙ ap (λ (m : Market). m.rate unit) c.in_ok-market.ensures.market in
    let points = to_z-of_z w64 c.standing.result standing_fits ∙ c.standing.ensures ∙ (λ i. standing v (c.in_ok-market.ensures.market i) (row i)) in
    record {
      answer = not_stopped s code currency c.in_ok-at.at unit place c.args.amount inside rated stop;
      callback = record { located = place; is_callback = λ i. record { amount = amount i; rate = rate i; standing = points i } };
    }
