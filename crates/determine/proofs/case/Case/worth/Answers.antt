use Rattle.std.proofs.Common.{◌≡◌, ◌≤◌, length, get_or, ℤ, ◌*ℤ◌, ap, ◌∙◌, arith, take_all, rules, w64}
use Rattle.std.proofs.lemmas.Int.{ints, to_z-of_z}
use Rattle.money.specs.declared.currency.Currency.{Currency}
use Rattle.money.specs.declared.currency.Currency.TheVariants.{Gbp}
use Rattle.money.specs.Currencies.{currencies}
use Rattle.determination.specs.Valuations.{worth}
use Rattle.determine.specs.Cases.{market_at, state_in}
use Rattle.determine.proofs.Values.{sum_more}
use Rattle.determine.proofs.case.Case.worth.Goals as goal

pub loop-currency-preserved : goal.loop-currency-preserved
loop-currency-preserved g c =
    let base = (state_in c.args.self.now).base in
    let rate = (market_at c.args.self.now).rate in
    let counts = g.V.Valuation.meaning.counts in
    let i = c.loop-currency.currency-index in
    let d = get_or currencies i Gbp in
    let inv = c.loop-currency.invariant in
    let small = c.points-sum.ensures.small in
    let given = to_z-of_z w64 c.amount.result (record { sfits = c.amount.type_inv }) in
    record {
      worth = λ t gives.
          let f : Currency → ℤ = λ e. counts base e (t e) *ℤ rate e in
          let gave : c.amount.result ≡ t d = gives d _ c.amount.ensures in
          let added : c.points-sum.result ≡ f d = c.points-sum.ensures.answer ∙ (λ j. counts base d ((given ∙ gave) j) *ℤ rate d) in
          let more = sum_more f currencies i Gbp c.loop-currency-test.true in
          let so-far = inv.worth t gives in
          omega (arith, ints);
      small = omega (arith, ints);
    }

pub returns-clause-answer : goal.returns-clause-answer
returns-clause-answer g c = λ t gives.
    let k = c.args.self.now in
    let i = c.loop-currency.currency-index in
    let past : length currencies ≤ i = search rules in
    c.loop-currency.invariant.worth t gives ∙ ap (worth g.V.Valuation.meaning (market_at k) (state_in k).base t) (take_all i currencies past)
