-- `writing::offer` meets its contract, which is that of `hashes_as` for its type. Assumes nothing.
use Rattle.message.specs.Layout.{offer}
use Rattle.message.proofs.OfferLaws.{offer-says}
use Rattle.message.proofs.writing.offer.Goals as goal

pub returns : goal.returns
returns c = c.hashes_as.ensures offer offer-says
