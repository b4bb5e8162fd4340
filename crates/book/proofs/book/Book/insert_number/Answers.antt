use Rattle.std.proofs.Common.{sym, ap, ◌∙◌, arith}
use Rattle.register.specs.Rows.{ascending}
use Rattle.history.specs.Bookings.{with_accounts}
use Rattle.book.specs.Books.{meaning}
use Rattle.book.specs.Rows.{numbers_of}
use Rattle.book.proofs.Inserted.{number_fits}
use Rattle.book.proofs.Rooms.{numbers-left}
use Rattle.book.proofs.book.Book.insert_number.Goals as goal
use Rattle.std.specs.Ordering.{nat_cmp}

pub invariant_of-self : goal.invariant_of-self
invariant_of-self g c =
    let b = c.args.self.now in
    let left = numbers-left b c.requires.room in
    let put = number_fits b c.args.number c.as_slice.result.now c.insertion_point-at.result c.as_slice.ensures.value c.insertion_point-at.ensures.within c.insertion_point-at.ensures.point c.requires.absent in
    record {
      coded = b.coded;
      rising = b.rising;
      numbered = ap numbers_of c.insert_within-2.ensures.items ∙ put.numbered ∙ sym c.insert_within.ensures.items;
      climbing = ap (ascending nat_cmp) c.insert_within.ensures.items ∙ put.climbing;
      few = b.few;
      less = omega (arith, c.insert_within.ensures.len, left);
      roomy = b.roomy;
      wide = b.wide;
      spare = omega (arith, c.insert_within.ensures.capacity, b.spare);
      broad = omega (arith, c.insert_within-2.ensures.capacity, b.broad);
    }

pub returns-clause-after : goal.returns-clause-after
returns-clause-after g c =
    let b = c.args.self.now in
    let put = number_fits b c.args.number c.as_slice.result.now c.insertion_point-at.result c.as_slice.ensures.value c.insertion_point-at.ensures.within c.insertion_point-at.ensures.point c.requires.absent in
    ap (λ optimizations. with_accounts (meaning b) (meaning b).accounts optimizations) (c.insert_within-2.ensures.items ∙ put.lies)
