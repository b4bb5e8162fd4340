use Rattle.std.proofs.Common.{vec_items, sym, ap, ◌∙◌}
use Rattle.register.specs.Rows.{ascending}
use Rattle.history.specs.Bookings.{with_accounts}
use Rattle.book.specs.Books.{meaning}
use Rattle.book.proofs.Inserted.{number-kept}
use Rattle.book.proofs.book.Book.hold_number.Goals as goal
use Rattle.std.specs.Ordering.{nat_cmp}

pub returns-then-is_in_use-clause-after : goal.returns-then-is_in_use-clause-after
returns-then-is_in_use-clause-after g c =
    let b = c.args.self.now in
    let kept = number-kept c.args.number (vec_items b.optimizations) (ap (ascending nat_cmp) b.numbered ∙ b.climbing) (sym c.if-is_in_use.ensures) in
    ap (λ optimizations. with_accounts (meaning b) (meaning b).accounts optimizations) (sym kept)
