-- What a case is about.
use Rattle.account.specs.declared.account.AccountState.{AccountState}
use Rattle.account.specs.Answers.{state_of}
use Rattle.determination.specs.Valuations.{Market}
use Rattle.determine.specs.declared.case.Case.{Case}
use Rattle.determine.specs.Markets.{market_in}

abbrev pub market_at : Case → Market
market_at k = market_in k.market

abbrev pub state_in : Case → AccountState
state_in k = state_of k.account
