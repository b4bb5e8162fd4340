use Rattle.std.proofs.Common.{◌≡◌, ℕ, List, map, length, get_or, set, ℤ, pos, ◌+ℤ◌, Some, None, Option, sym, ap, ◌∙◌, subst, arith, w64, to_z, of_z, rules}
use Rattle.std.proofs.lemmas.Int.{ints}
use Rattle.money.specs.declared.currency.Currency.{Currency}
use Rattle.money.specs.Currencies.{currencies, place}
use Rattle.determination.specs.Calls.{all_called_in}
use Rattle.determination.specs.Determinations.{amount_in}
use Rattle.determination.specs.Roundings.{rounded_up}
use Rattle.determination.specs.Valuations.{Market}
use Rattle.determine.specs.declared.case.Case.{Case}
use Rattle.determine.specs.declared.points.Points.{Points}
use Rattle.determine.specs.Cases.{market_at}
use Rattle.determine.specs.Sizes.{EachSmall, Few, EachFew}
use Rattle.determine.proofs.Besides.{none-besides, some-besides, besides-small}
use Rattle.determine.proofs.Payments.{up-few}
use Rattle.determine.proofs.Rated.{is-rate}
use Rattle.determine.proofs.case.Case.call_besides.Goals as goal

abbrev besides : Market → List ℤ → ℤ → Option Currency → List ℤ
besides m xs r o = map (λ c. amount_in xs c +ℤ all_called_in m o r c) currencies

module _ (self : Case) (r : Points) (k : Currency) (w : ℤ) (called : w ≡ rounded_up r.count ((market_at self).rate k)) where
  few : Few w
  few = rw called (up-few r.count ((market_at self).rate k) r.rest (is-rate self.market.quotes self.market.rated k))

  more : (xs : List ℤ) (i : ℕ) (o : Option Currency) → length xs ≡ length currencies → EachFew xs → i ≡ place k → o ≡ Some k →
      set xs i (to_z w64 (of_z w64 (to_z w64 (of_z w64 (get_or xs i (pos 0))) +ℤ to_z w64 (of_z w64 w)))) ≡ besides (market_at self) xs r.count o
  more xs i o all each at is =
      let one = few in
      let other = each k in
      let sum : to_z w64 (of_z w64 (to_z w64 (of_z w64 (amount_in xs k)) +ℤ to_z w64 (of_z w64 w))) ≡ amount_in xs k +ℤ w = omega (arith, ints) in
      (λ j. set xs (at j) (to_z w64 (of_z w64 (to_z w64 (of_z w64 (get_or xs (at j) (pos 0))) +ℤ to_z w64 (of_z w64 w)))))
      ∙ ap (set xs (place k)) (sum ∙ ap (λ z. amount_in xs k +ℤ z) called) ∙ some-besides (market_at self) xs all r.count k ∙ ap (besides (market_at self) xs r.count) (sym is)

pub returns-in_default : goal.returns-in_default
returns-in_default c =
    let m = market_at c.args.self.now in
    let none : c.args.first ≡ None = search rules in
    none-besides m c.args.calls (search rules) c.args.points.count ∙ ap (besides m c.args.calls c.args.points.count) (sym none)

pub overflow_add-calls : goal.overflow_add-calls
overflow_add-calls c =
    let one : Few c.rounded_up.result = few c.args.self.now c.args.points c.in-Some.currency c.rounded_up.result (search rules) in
    let other = c.requires c.in-Some.currency in
    rw c.index.ensures (omega (arith, ints, one.low, one.high, other.low, other.high))

pub returns : goal.returns
returns c = more c.args.self.now c.args.points c.in-Some.currency c.rounded_up.result (search rules) c.args.calls c.index.result c.args.first (search rules) c.requires c.index.ensures c.in-Some.is

pub invariant_of-result-2 : goal.invariant_of-result-2
invariant_of-result-2 c =
    let self = c.args.self.now in
    let r = c.args.points in
    let listed = more self r c.in-Some.currency c.rounded_up.result (search rules) c.args.calls c.index.result c.args.first (search rules) c.requires c.index.ensures c.in-Some.is in
    record { small = subst EachSmall (sym listed) (besides-small (market_at self) (is-rate self.market.quotes self.market.rated) c.args.calls r.count c.args.first c.requires r.rest) }
