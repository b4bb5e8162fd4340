use Rattle.std.proofs.Common.{T, vec_items, sym, subst}
use Rattle.money.specs.CodeOrders.{code_order}
use Rattle.register.specs.Rows.{ascending}
use Rattle.book.proofs.Placed.{place-lies}
use Rattle.book.proofs.book.Book.place_of.Goals as goal

pub returns : goal.returns
returns g c =
    let codes = vec_items c.args.self.now.codes in
    let up : T (ascending code_order codes) = subst T (sym c.args.self.now.rising) tt in
    place-lies (vec_items c.args.self.now.accounts.rows) codes c.args.code c.find.result c.args.self.now.coded
    (simp c.as_slice.ensures.value at c.find.ensures.answer up)
