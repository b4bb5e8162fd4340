use Rattle.std.proofs.Common.{Err, ap, ◌∙◌, w64, SFits, rules}
use Rattle.std.proofs.lemmas.Result.{err_from_is_err_and}
use Rattle.std.proofs.lemmas.Int.{to_z-of_z}
use Rattle.account.specs.Answers.{state_of}
use Rattle.book.specs.Books.{meaning}
use Rattle.book.proofs.Opened.{read-from, refused-code, refused-terms, told-room, opens-account, faulty}
use Rattle.book.proofs.book.Book.new_account.Goals as goal

pub returns-in_err-code : goal.returns-in_err-code
returns-in_err-code g c =
    let p = err_from_is_err_and c.from_residual.result c.from_residual.ensures.1 in
    let d = faulty c.from_residual.result c.in_err-code.field-0.0 _ _ (p.1 ∙ ap Err p.2)
    (refused-code (g.V.Valuation.meaning) (meaning c.args.self.now) c.args.subject.code c.args.opening.number c.args.subject.currency c.args.opening.level c.args.opening.setting c.args.opening.priority.now _ c.in_err-code.ensures.answer) in
    record { answer = d.0; account = d.1 }

pub returns-in_err-terms : goal.returns-in_err-terms
returns-in_err-terms g c =
    let p = err_from_is_err_and c.from_residual-in_err-terms.result c.from_residual-in_err-terms.ensures.1 in
    let number_fits : SFits w64 c.args.opening.number = search rules in
    let level_fits : SFits w64 c.args.opening.level = search rules in
    let setting_fits : SFits w64 c.args.opening.setting = search rules in
    let read = simp (to_z-of_z w64 c.args.opening.number number_fits, to_z-of_z w64 c.args.opening.level level_fits, to_z-of_z w64 c.args.opening.setting setting_fits) at c.in_err-terms.ensures.answer in
    let d = faulty c.from_residual-in_err-terms.result c.in_err-terms.field-0.0 _ _ (p.1 ∙ ap Err p.2)
    (refused-terms (g.V.Valuation.meaning) (meaning c.args.self.now) c.args.subject.code c.args.opening.number c.args.subject.currency c.args.opening.level c.args.opening.setting c.args.opening.priority.now _ c.in_ok-code.ensures.answer read) in
    record { answer = d.0; account = d.1 }

pub check_room-requires : goal.check_room-requires
check_room-requires g c =
    let number_fits : SFits w64 c.args.opening.number = search rules in
    let level_fits : SFits w64 c.args.opening.level = search rules in
    let setting_fits : SFits w64 c.args.opening.setting = search rules in
    let read = simp (to_z-of_z w64 c.args.opening.number number_fits, to_z-of_z w64 c.args.opening.level level_fits, to_z-of_z w64 c.args.opening.setting setting_fits) at c.in_ok-terms.ensures.value in
    (read-from c.args.opening.number c.args.subject.currency c.args.opening.level c.args.opening.setting c.args.opening.priority.now _ read).is_base

pub returns-in_err-check_room : goal.returns-in_err-check_room
returns-in_err-check_room g c =
    let p = err_from_is_err_and c.from_residual-in_err-check_room.result c.from_residual-in_err-check_room.ensures.1 in
    let number_fits : SFits w64 c.args.opening.number = search rules in
    let level_fits : SFits w64 c.args.opening.level = search rules in
    let setting_fits : SFits w64 c.args.opening.setting = search rules in
    let read = simp (to_z-of_z w64 c.args.opening.number number_fits, to_z-of_z w64 c.args.opening.level level_fits, to_z-of_z w64 c.args.opening.setting setting_fits) at c.in_ok-terms.ensures in
    let from = read-from c.args.opening.number c.args.subject.currency c.args.opening.level c.args.opening.setting c.args.opening.priority.now _ read.value in
    let d = faulty c.from_residual-in_err-check_room.result c.in_err-check_room.field-0.0 _ _ (p.1 ∙ ap Err p.2)
    (told-room (g.V.Valuation.meaning) (meaning c.args.self.now) c.args.subject.code c.args.opening.number c.args.subject.currency c.args.opening.level c.args.opening.setting c.args.opening.priority.now _ _ c.in_ok-code.ensures.answer read.answer from.is_number c.in_err-check_room.ensures) in
    record { answer = d.0; account = d.1 }

pub returns : goal.returns
returns g c =
    let v = g.V.Valuation.meaning in
    let s = meaning c.args.self.now in
    let number_fits : SFits w64 c.args.opening.number = search rules in
    let level_fits : SFits w64 c.args.opening.level = search rules in
    let setting_fits : SFits w64 c.args.opening.setting = search rules in
    let read = simp (to_z-of_z w64 c.args.opening.number number_fits, to_z-of_z w64 c.args.opening.level level_fits, to_z-of_z w64 c.args.opening.setting setting_fits) at c.in_ok-terms.ensures in
    let from = read-from c.args.opening.number c.args.subject.currency c.args.opening.level c.args.opening.setting c.args.opening.priority.now _ read.value in
    record {
      answer = told-room v s c.args.subject.code c.args.opening.number c.args.subject.currency c.args.opening.level c.args.opening.setting c.args.opening.priority.now _ _ c.in_ok-code.ensures.answer read.answer from.is_number c.in_ok-check_room.ensures;
      account = opens-account v s c.args.subject.code c.args.opening.number c.args.subject.currency c.args.opening.level c.args.opening.setting c.args.opening.priority.now c.in_ok-code.code _ c.in_ok-code.ensures.free from c.in_ok-check_room.ensures (state_of c.new.result) c.new.ensures;
    }
