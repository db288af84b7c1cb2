-- `messages::tandawire_message_content` meets its contract: a number in the part that `items::content` hands back. Assumes nothing.
use Rattle.probe.proofs.messages.tandawire_message_content.Goals as goal

pub returns : goal.returns
returns c = rw (← c.content.ensures) c.number_at.ensures
