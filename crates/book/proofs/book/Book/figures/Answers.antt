use Rattle.std.proofs.Common.{◌≡◌, ◌<◌, length, Some, vec_items, sym, ap, ◌∙◌, subst, arith, rules}
use Rattle.std.specs.Option.{option_map}
use Rattle.money.specs.Codes.{code_of}
use Rattle.money.specs.Currencies.{currency_of}
use Rattle.account.specs.Accounts.{figures_in}
use Rattle.request.specs.declared.subject.Subject.{Subject}
use Rattle.book.specs.Books.{meaning}
use Rattle.book.specs.Places.{HeldAt}
use Rattle.book.specs.Questions.{currency_faults, figures_named}
use Rattle.book.proofs.Asked.{asked-done, row_lies}
use Rattle.book.proofs.Rooms.{accounts-length, rows-length}
use Rattle.book.proofs.book.Book.figures.Goals as goal

pub returns-clause-value : goal.returns-clause-value
returns-clause-value g c =
    let b = c.args.self.now in
    let held : HeldAt (meaning b) (code_of c.args.code.now) c.in_ok-at.at = subst (λ (subject : Subject). HeldAt (meaning b) subject.code c.in_ok-at.at) c.read-subject.ensures c.in_ok-at.ensures.place in
    let unit : currency_of c.args.currency.now ≡ Some c.in_ok-currency.currency = search rules in
    let lt : c.in_ok-at.at < length (vec_items b.accounts.rows) = omega (arith, held.lies.within, accounts-length b, rows-length b, b.accounts.rows.ok.0) in
    let row = row_lies (vec_items b.accounts.rows) c.in_ok-at.at c.index.result.now _ held.lies.account c.index.ensures lt held.lies.stands in
    let figures = ap Some (c.figures.ensures.answer ∙ ap (λ a. figures_in a c.in_ok-currency.currency) row) ∙ ap (option_map (figures_in held.lies.account)) (sym unit) in
    let d = asked-done (meaning b) (code_of c.args.code.now) (currency_of c.args.currency.now) (currency_faults c.args.code.now c.args.currency.now) (figures_named c.args.currency.now) c.in_ok-at.at held c.figures.result (search rules) figures in
    d.1
