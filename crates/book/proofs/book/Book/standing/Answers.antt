use Rattle.std.proofs.Common.{◌<◌, [], ◌∷◌, length, Some, None, Err, vec_items, ap, ◌∙◌, subst, arith, w64, SFits, rules}
use Rattle.std.proofs.lemmas.Result.{err_from_is_err_and}
use Rattle.std.proofs.lemmas.Int.{to_z-of_z}
use Rattle.money.specs.Codes.{code_of}
use Rattle.request.specs.declared.subject.Subject.{Subject}
use Rattle.request.specs.Causes.{first_told}
use Rattle.determination.specs.Standings.{standing}
use Rattle.history.specs.States.{market_of, missing_rate}
use Rattle.book.specs.Books.{meaning}
use Rattle.book.specs.Places.{held_faults, HeldAt}
use Rattle.book.specs.Standings.{missing_fault, where_rated}
use Rattle.book.proofs.Asked.{asked-stopped, asked-refused, asked-done, row_lies}
use Rattle.book.proofs.Marketed.{lack, not-rated, rated}
use Rattle.book.proofs.Rooms.{accounts-length, rows-length}
use Rattle.book.proofs.book.Book.standing.Goals as goal

pub returns-in_err-at : goal.returns-in_err-at
returns-in_err-at g c =
    let v = g.V.Valuation.meaning in
    let s = meaning c.args.self.now in
    let p = err_from_is_err_and c.from_residual.result c.from_residual.ensures.1 in
    let e = c.in_err-at.ensures.answer ∙ ap (λ (subject : Subject). first_told (held_faults s subject.code subject.currency)) c.of_code-subject.ensures in
    let d = asked-stopped s (code_of c.args.code.now) None (missing_fault s (code_of c.args.code.now) ∷ []) (λ a. where_rated (missing_rate s) (Some (standing v (market_of s) a))) c.in_err-at.field-0.0 c.from_residual.result (p.1 ∙ ap Err p.2) e in
    record { answer = d.0; value = d.1 }

pub returns-in_err-market : goal.returns-in_err-market
returns-in_err-market g c =
    let v = g.V.Valuation.meaning in
    let s = meaning c.args.self.now in
    let code = code_of c.args.code.now in
    let held : HeldAt s code c.in_ok-at.at = subst (λ (subject : Subject). HeldAt s subject.code c.in_ok-at.at) c.of_code-subject.ensures c.in_ok-at.ensures.place in
    let p = err_from_is_err_and c.from_residual-in_err-market.result c.from_residual-in_err-market.ensures.1 in
    let e = c.in_err-market.ensures.answer ∙ ap (λ (subject : Subject). lack subject.code (missing_rate s)) c.of_code-subject.ensures in
    let d = asked-refused s code None (missing_fault s code ∷ []) (λ a. where_rated (missing_rate s) (Some (standing v (market_of s) a))) c.in_ok-at.at held c.in_err-market.field-0.0 c.from_residual-in_err-market.result (p.1 ∙ ap Err p.2) e (λ a. not-rated code (missing_rate s) _ _ e) in
    record { answer = d.0; value = d.1 }

pub returns : goal.returns
returns g c =
    let v = g.V.Valuation.meaning in
    let b = c.args.self.now in
    let s = meaning b in
    let code = code_of c.args.code.now in
    let held : HeldAt s code c.in_ok-at.at = subst (λ (subject : Subject). HeldAt s subject.code c.in_ok-at.at) c.of_code-subject.ensures c.in_ok-at.ensures.place in
    let lt : c.in_ok-at.at < length (vec_items b.accounts.rows) = omega (arith, held.lies.within, accounts-length b, rows-length b, b.accounts.rows.ok.0) in
    let row = row_lies (vec_items b.accounts.rows) c.in_ok-at.at c.index.result.now _ held.lies.account c.index.ensures lt held.lies.stands in
    let e = c.in_ok-market.ensures.answer ∙ ap (λ (subject : Subject). lack subject.code (missing_rate s)) c.of_code-subject.ensures in
    let points = c.standing.ensures ∙ (λ i. standing v (c.in_ok-market.ensures.market i) (row i)) in
    let d = asked-done s code None (missing_fault s code ∷ []) (λ a. where_rated (missing_rate s) (Some (standing v (market_of s) a))) c.in_ok-at.at held c.standing.result e (ap Some points ∙ rated code (missing_rate s) (Some (standing v (market_of s) held.lies.account)) e) in
    let fits : SFits w64 c.standing.result = search rules in
    record { answer = d.0; value = ap Some (to_z-of_z w64 c.standing.result fits) ∙ d.1 }
