-- `swapping::next_size` meets its contract: the smaller of twice the size and 4,096. Assumes nothing.
use Rattle.ledger.specs.Session.{next_size}
use Rattle.std.proofs.Common.{rules}
use Rattle.session.proofs.swapping.next_size.Goals as goal

pub returns : goal.returns
unfolding next_size
returns c = search rules
