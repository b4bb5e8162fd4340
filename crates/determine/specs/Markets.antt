-- What a market in memory means.
use Rattle.determination.specs.Valuations as meant
use Rattle.determine.specs.declared.market.Market.{Market}
use Rattle.determine.specs.Rates.{market_by}

abbrev pub market_in : Market → meant.Market
market_in m = market_by m.quotes
