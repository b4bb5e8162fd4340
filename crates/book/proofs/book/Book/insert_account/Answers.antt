use Rattle.std.proofs.Common.{◌≡◌, map, vec_items, sym, ap, ◌∙◌, arith}
use Rattle.std.specs.List.{insert}
use Rattle.money.specs.CodeOrders.{code_order}
use Rattle.account.specs.Answers.{state_of}
use Rattle.register.specs.Rows.{ascending}
use Rattle.history.specs.Bookings.{with_accounts}
use Rattle.book.specs.Books.{meaning}
use Rattle.book.specs.Rows.{codes_of}
use Rattle.book.proofs.Inserted.{account-fits}
use Rattle.book.proofs.Rooms.{accounts-left}
use Rattle.book.proofs.book.Book.insert_account.Goals as goal

pub invariant_of-self : goal.invariant_of-self
invariant_of-self g c =
    let b = c.args.self.now in
    let left = accounts-left b c.requires.room in
    let put = account-fits b c.args.account c.code-code.result c.as_slice.result.now c.insertion_point-at.result c.code-code.ensures c.as_slice.ensures.value c.insertion_point-at.ensures.within c.insertion_point-at.ensures.point c.requires.absent in
    let items : vec_items c.insert_within.new.row ≡ insert (vec_items b.codes) c.insertion_point-at.result c.args.account.state.code = c.insert_within.ensures.items ∙ ap (insert (vec_items b.codes) c.insertion_point-at.result) c.code-code.ensures in
    record {
      coded = ap codes_of c.insert_within-2.ensures.items ∙ put.coded ∙ sym items;
      rising = ap (ascending code_order) items ∙ put.rising;
      numbered = b.numbered;
      climbing = b.climbing;
      few = omega (arith, c.insert_within.ensures.len, left);
      less = b.less;
      roomy = omega (arith, c.insert_within.ensures.capacity, b.roomy);
      wide = omega (arith, c.insert_within-2.ensures.capacity, b.wide);
      spare = b.spare;
      broad = b.broad;
    }

pub returns-clause-after : goal.returns-clause-after
returns-clause-after g c =
    let b = c.args.self.now in
    let put = account-fits b c.args.account c.code-code.result c.as_slice.result.now c.insertion_point-at.result c.code-code.ensures c.as_slice.ensures.value c.insertion_point-at.ensures.within c.insertion_point-at.ensures.point c.requires.absent in
    ap (λ accounts. with_accounts (meaning b) accounts (meaning b).optimizations) (ap (map state_of) c.insert_within-2.ensures.items ∙ put.lies)
