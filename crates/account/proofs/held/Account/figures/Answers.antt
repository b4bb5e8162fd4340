use Rattle.std.proofs.Common.{arith}
use Rattle.money.proofs.EachCurrency.{place-within}
use Rattle.account.proofs.SoundAccounts.{ranged_at}
use Rattle.account.proofs.held.Account.figures.Goals as goal

pub returns-clause-ranged : goal.returns-clause-ranged
returns-clause-ranged c = ranged_at c.args.self.now.state c.args.self.now.soundness _ (omega (arith, c.index-place.ensures, place-within c.args.currency))
