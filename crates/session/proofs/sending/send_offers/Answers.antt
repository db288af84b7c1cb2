-- `sending::send_offers` meets its contract: given its room, the writer writes. Assumes nothing.
use mathlib.Core.Path.{◌∙◌}
use Rattle.filter.specs.Table.{hashes_of}
use Rattle.message.specs.Writing.{offers_of}
use Rattle.ledger.proofs.SendLaws.{sent_to, not_refused, hashes-write}
use Rattle.session.proofs.sending.send_offers.Goals as goal

pub unwrap-requires : goal.unwrap-requires
unwrap-requires c = let a = c.args in not_refused (offers_of (hashes_of a.hashes.now)) a.at a.out.now (c.offer.ensures ∙ hashes-write offers_of a.hashes.now a.at a.out.now c.requires.0 c.requires.1)

pub returns : goal.returns
returns c = let a = c.args in
    sent_to (offers_of (hashes_of a.hashes.now)) a.at a.out.now (c.offer.ensures ∙ hashes-write offers_of a.hashes.now a.at a.out.now c.requires.0 c.requires.1) c.unwrap.ensures
