use Rattle.std.proofs.Common.{◌≡◌, ◌<◌, ◌≤◌, List, length, get_or, set, ℤ, pos, ◌-ℤ◌, ◌*ℤ◌, sym, ap, ◌∙◌, subst, length-set, arith, w64, SFits, to_z, of_z, rules}
use Rattle.std.specs.Int.{int_max}
use Rattle.std.proofs.lemmas.Int.{ints, to_z-of_z}
use Rattle.money.specs.declared.currency.Currency.{Currency}
use Rattle.money.specs.declared.currency.Currency.TheVariants.{Gbp}
use Rattle.money.specs.Currencies.{place}
use Rattle.determination.specs.Walks.{rest_after}
use Rattle.determination.proofs.BalanceLaws.{priority-once}
use Rattle.determine.specs.Cases.{market_at, state_in}
use Rattle.determine.specs.Payments.{Turned}
use Rattle.determine.specs.Points.{Rest}
use Rattle.determine.specs.Sizes.{EachFew}
use Rattle.determine.proofs.Besides.{few-set}
use Rattle.determine.proofs.Listings.{walked-step, walked-end, walk-listed}
use Rattle.determine.proofs.case.Case.walk.Goals as goal

-- what an amount is worth, as the machine has it
worth : (r q w : ℤ) → Turned r q w → Rest r → SFits w64 q → SFits w64 w → to_z w64 (of_z w64 (to_z w64 (of_z w64 w) *ℤ to_z w64 (of_z w64 q))) ≡ w *ℤ q
worth r q w t rest fits also = let product : SFits w64 (w *ℤ q) = omega (arith, ints, t.from_zero, t.within, rest.high) in simp to_z-of_z

pub less-rest-requires : goal.less-rest-requires
less-rest-requires g c =
    let r = c.loop-currency.rest in
    let t : Turned r.count c.rate.result c.take-amount.result = rw c.rate.ensures.answer (c.requires.turned r _ c.take-amount.result c.take-amount.ensures) in
    rw (worth r.count c.rate.result c.take-amount.result t r.rest (record { sfits = c.rate.type_inv }) (record { sfits = c.take-amount.type_inv })) t.from_zero

pub loop-currency-preserved : goal.loop-currency-preserved
loop-currency-preserved g c =
    let m = market_at c.args.self.now in
    let cs = (state_in c.args.self.now).priority in
    let i = c.loop-currency.currency-index in
    let r = c.loop-currency.rest.count in
    let xs = c.loop-currency.amounts in
    let w = c.take-amount.result in
    let k = get_or cs i Gbp in
    let same : get_or c.priority-currency-items.result i Gbp ≡ k = ap (λ (ks : List Currency). get_or ks i Gbp) c.priority-currency-items.ensures in
    let named : i < length cs = search rules in
    let at : c.index.result ≡ place k = c.index.ensures ∙ ap place same in
    let rate : c.rate.result ≡ m.rate k = c.rate.ensures.answer ∙ ap m.rate same in
    let fits : SFits w64 w = record { sfits = c.take-amount.type_inv } in
    let wrote = to_z-of_z w64 w fits in
    let inv = c.loop-currency.invariant in
    let t' : Turned r c.rate.result w = rw c.rate.ensures.answer (c.requires.turned c.loop-currency.rest _ w c.take-amount.ensures) in
    let value = worth r c.rate.result w t' c.loop-currency.rest.rest (record { sfits = c.rate.type_inv }) fits in (
      (λ t takes.
          let took : w ≡ t r k = takes c.loop-currency.rest _ w c.take-amount.ensures ∙ ap (t r) same in
          let rested : c.less-rest.result.count ≡ rest_after t m.rate r k = c.less-rest.ensures ∙ ap (λ z. int_max (r -ℤ z) (pos 0)) (value ∙ (λ j. took j *ℤ rate j)) in
          walked-step t m.rate cs i c.index.result r c.less-rest.result.count (to_z w64 (of_z w64 w)) _ xs _ named rested at (wrote ∙ took) (inv.0 t takes)),
      subst EachFew (sym (λ j. set xs (at j) (wrote j))) (few-set xs k w inv.2 inv.1 (record { low = t'.low; high = t'.high })),
      length-set xs _ _ ∙ inv.2,
    )

pub returns : goal.returns
returns g c =
    let m = market_at c.args.self.now in
    let a = state_in c.args.self.now in
    let points = c.args.points.count in
    let i = c.loop-currency.currency-index in
    let past : length a.priority ≤ i = search rules in
    record {
      rest = λ t takes. (walked-end t m.rate a.priority i _ _ _ _ past (c.loop-currency.invariant.0 t takes)).0;
      taken = λ t takes.
          (walked-end t m.rate a.priority i _ _ _ _ past (c.loop-currency.invariant.0 t takes)).1
          ∙ walk-listed t m.rate a.priority (priority-once a c.args.self.now.account.soundness) points;
      few = c.loop-currency.invariant.1;
    }
