-- `messages::tandawire_message_content_length` meets its contract: the length of the part that `items::content` hands back. Assumes nothing.
use Rattle.std.proofs.Common.{length, ap}
use Rattle.probe.proofs.messages.tandawire_message_content_length.Goals as goal

pub returns : goal.returns
returns c = ap length c.content-content.ensures
