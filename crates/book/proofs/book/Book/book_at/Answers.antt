use Rattle.std.proofs.Common.{◌<◌, length, vec_items, refl, ◌∙◌, arith}
use Rattle.account.specs.Answers.{booking_answer}
use Rattle.account.specs.Bookings.{booking_change, change_figures}
use Rattle.book.specs.Books.{meaning}
use Rattle.book.proofs.InPlace.{answer-is, codes-stay, rows-after}
use Rattle.book.proofs.book.Book.book_at.Goals as goal

pub invariant_of-self : goal.invariant_of-self
invariant_of-self g c =
    let book = c.args.self.now in
    let rows = vec_items book.accounts.rows in
    let lt : c.args.at < length rows = omega (arith, c.requires, book.accounts.rows.ok.0) in
    let codes = codes-stay rows c.args.at c.index_mut.result.now c.book.new.self lt c.index_mut.ensures.value (change_figures (booking_change c.args.booking) c.args.currency) (λ a. refl) c.book.result c.book.ensures.after in
    record {
      coded = codes ∙ book.coded;
      rising = book.rising;
      numbered = book.numbered;
      climbing = book.climbing;
      few = book.few;
      less = book.less;
      roomy = book.roomy;
      wide = book.wide;
      spare = book.spare;
      broad = book.broad;
    }

pub returns : goal.returns
returns g c =
    let book = c.args.self.now in
    let rows = vec_items book.accounts.rows in
    let lt : c.args.at < length rows = omega (arith, c.requires, book.accounts.rows.ok.0) in
    record {
      answer = answer-is rows c.args.at c.index_mut.result.now c.book.new.self lt c.index_mut.ensures.value (λ a. booking_answer a c.args.currency c.args.booking) c.book.result c.book.ensures.answer;
      after = rows-after rows c.args.at c.index_mut.result.now c.book.new.self lt c.index_mut.ensures.value (change_figures (booking_change c.args.booking) c.args.currency) (meaning book) refl c.book.result c.book.ensures.after;
      valued = refl;
    }
