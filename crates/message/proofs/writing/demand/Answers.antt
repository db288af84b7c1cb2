-- `writing::demand` meets its contract, which is that of `hashes_as` for its type. Assumes nothing.
use Rattle.message.specs.Layout.{demand}
use Rattle.message.proofs.OfferLaws.{demand-says}
use Rattle.message.proofs.writing.demand.Goals as goal

pub returns : goal.returns
returns c = c.hashes_as.ensures demand demand-says
