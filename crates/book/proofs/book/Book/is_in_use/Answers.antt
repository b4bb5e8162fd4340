use Rattle.std.proofs.Common.{T, vec_items, sym, ◌∙◌, subst}
use Rattle.register.specs.Rows.{ascending}
use Rattle.book.proofs.Placed.{number-placed}
use Rattle.book.proofs.book.Book.is_in_use.Goals as goal
use Rattle.std.specs.Ordering.{nat_cmp}

pub returns : goal.returns
returns g c =
    let numbers = vec_items c.args.self.now.numbers in
    let up : T (ascending nat_cmp numbers) = subst T (sym c.args.self.now.climbing) tt in
    c.is_some.ensures ∙ number-placed (vec_items c.args.self.now.optimizations) numbers c.args.number c.find.result c.args.self.now.numbered
    (simp c.as_slice.ensures.value at c.find.ensures.answer up)
