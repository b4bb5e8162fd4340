use Rattle.std.proofs.Common.{T, vec_items, sym, subst}
use Rattle.std.specs.Ordering.{nat_cmp}
use Rattle.register.specs.Rows.{ascending}
use Rattle.book.proofs.Stopped.{placed-stopped, unplaced-stopped}
use Rattle.book.proofs.book.Book.is_number_stopped.Goals as goal

pub returns-in-Some : goal.returns-in-Some
returns-in-Some g c =
    let b = c.args.self.now in
    let up : T (ascending nat_cmp (vec_items b.numbers)) = subst T (sym b.climbing) tt in
    placed-stopped (vec_items b.optimizations) (vec_items b.numbers) c.args.number c.find.result b.numbered
    (simp c.as_slice.ensures.value at c.find.ensures.answer up)
    b.climbing c.in-Some.place c.in-Some.is c.index.result.now c.index.ensures

pub returns-in-None : goal.returns-in-None
returns-in-None g c =
    let b = c.args.self.now in
    let up : T (ascending nat_cmp (vec_items b.numbers)) = subst T (sym b.climbing) tt in
    unplaced-stopped (vec_items b.optimizations) (vec_items b.numbers) c.args.number c.find.result b.numbered
    (simp c.as_slice.ensures.value at c.find.ensures.answer up)
    c.in-None.is
