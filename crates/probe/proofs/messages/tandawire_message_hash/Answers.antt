-- `messages::tandawire_message_hash` meets its contract: a number in the part that `items::hash_at_lem` hands back. Assumes nothing.
use Rattle.probe.proofs.messages.tandawire_message_hash.Goals as goal

pub returns : goal.returns
returns c = rw (← c.hash_at.ensures) c.number_at.ensures
