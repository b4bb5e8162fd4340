use Rattle.std.proofs.Common.{◌≡◌, ◌*ℤ◌, ◌∙◌, arith, w64, SFits, to_z, of_z}
use Rattle.std.proofs.lemmas.Int.{ints, to_z-of_z}
use Rattle.determine.specs.Cases.{state_in}
use Rattle.determine.specs.Points.{OnePoints}
use Rattle.determine.proofs.Values.{value-small}
use Rattle.determine.proofs.case.Case.points.Given as given
use Rattle.determine.proofs.case.Case.points.Goals as goal

counted : (g : given.Over) (c : goal.After-rate g) → c.counted.result ≡ g.V.Valuation.meaning.counts (state_in c.args.self.now).base c.args.currency c.args.amount
counted g c = c.counted.ensures ∙ (λ i. g.V.Valuation.meaning.counts (c.base.ensures i) c.args.currency (to_z-of_z w64 c.args.amount c.ranges.amount i))

small : (g : given.Over) (c : goal.After-rate g) → OnePoints (c.counted.result *ℤ c.rate.result)
small g c =
    rw (counted g c)
    (value-small g.V.Valuation.meaning g.met.V.Valuation.lawful (state_in c.args.self.now).base c.args.currency c.args.amount c.rate.result c.requires c.rate.ensures.ranged)

-- the product as the machine has it
product : (g : given.Over) (c : goal.After-rate g) → to_z w64 (of_z w64 c.counted.result) *ℤ to_z w64 (of_z w64 c.rate.result) ≡ c.counted.result *ℤ c.rate.result
product g c =
    let one : SFits w64 c.counted.result = record { sfits = c.counted.type_inv } in
    let other : SFits w64 c.rate.result = record { sfits = c.rate.type_inv } in
    simp to_z-of_z

pub overflow_mul-result : goal.overflow_mul-result
overflow_mul-result g c = let s = small g c in simp (product g c) (omega (arith, ints))

pub returns : goal.returns
returns g c =
    let s = small g c in
    let f : SFits w64 (c.counted.result *ℤ c.rate.result) = omega (arith, ints) in
    record {
      answer = simp (product g c, to_z-of_z) (λ i. counted g c i *ℤ c.rate.ensures.answer i);
      small = simp (product g c, to_z-of_z) s;
    }
