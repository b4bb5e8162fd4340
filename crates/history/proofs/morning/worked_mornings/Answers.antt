use Rattle.std.proofs.Common.{refl}
use Rattle.money.specs.Codes.{code_of}
use Rattle.money.specs.Currencies.{currency_of}
use Rattle.valuation.specs.FlatCharges.{flat_count}
use Rattle.valuation.specs.Norms.{norm_count}
use Rattle.determination.specs.Determinations.{total, call, repayment, determination}
use Rattle.determination.specs.Standings.{standing}
use Rattle.history.specs.Mornings.{WorkedMornings}
use Rattle.history.proofs.morning.worked_mornings.Goals as goal

worked : WorkedMornings
unfolding code_of currency_of flat_count norm_count total call repayment determination standing
worked = record {
  charged_surplus = refl;
  charged_deficiency = refl;
  shares_net = refl;
  covered_balance = refl;
  total_in_points = refl;
  surplus_repaid = refl;
  deficiency_called = refl;
  called_elsewhere = refl;
  standing_below_zero = refl;
  deposit_to_bound = refl;
  deposit_past_bound = refl;
  settlement_in_share = refl;
  repaid_at_level_two = refl;
  counted_by_norm = refl;
  repaid_by_norm = refl;
  credit_withheld = refl;
  settlement_stays_open = refl;
  first_called_besides = refl;
  second_called = refl;
}

pub returns : goal.returns
returns c = worked
