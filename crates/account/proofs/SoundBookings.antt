-- Figures stay in their ranges where others that lie in theirs are put in.
use Rattle.std.proofs.Common.{◌≡◌, true, ℤ}
use Rattle.std.proofs.lemmas.Bool.{and_parts}
use Rattle.money.specs.Ranges.{within, figure_range}
use Rattle.account.specs.declared.account.Figures.{Figures}
use Rattle.account.specs.Accounts.{Ranged}
use Rattle.account.specs.Bookings.{with_limits, with_margin}
use Rattle.account.specs.Checks.{are_figures}
use Rattle.account.proofs.Ranges.{figure}

pub ranged-limits : (f : Figures) (limit excess : ℤ) → Ranged f → are_figures limit excess ≡ true → Ranged (with_limits limit excess f)
ranged-limits f limit excess r in-range =
    let p = and_parts (within figure_range limit) (within figure_range excess) in-range in
    record { cash = r.cash; limit = figure limit p.0; excess = figure excess p.1; non_cash = r.non_cash; requirement = r.requirement; lowest = r.lowest; highest = r.highest }

pub ranged-margin : (f : Figures) (requirement non_cash : ℤ) → Ranged f → are_figures requirement non_cash ≡ true → Ranged (with_margin requirement non_cash f)
ranged-margin f requirement non_cash r in-range =
    let p = and_parts (within figure_range requirement) (within figure_range non_cash) in-range in
    record { cash = r.cash; limit = r.limit; excess = r.excess; non_cash = figure non_cash p.1; requirement = figure requirement p.0; lowest = r.lowest; highest = r.highest }
