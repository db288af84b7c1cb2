-- `sending::send_inquiries` meets its contract: given its room, the writer writes. Assumes nothing.
use mathlib.Core.Path.{◌∙◌}
use Rattle.message.specs.Writing.{inquiries_of}
use Rattle.ledger.proofs.SendLaws.{sent_to, not_refused, inquiry_writes}
use Rattle.session.proofs.sending.send_inquiries.Goals as goal

pub unwrap-requires : goal.unwrap-requires
unwrap-requires c = let a = c.args in not_refused (inquiries_of a.salt a.ids.now) a.at a.out.now (c.inquiry.ensures ∙ inquiry_writes a.salt a.ids.now a.at a.out.now c.requires.0 c.requires.1)

pub returns : goal.returns
returns c = let a = c.args in
    sent_to (inquiries_of a.salt a.ids.now) a.at a.out.now (c.inquiry.ensures ∙ inquiry_writes a.salt a.ids.now a.at a.out.now c.requires.0 c.requires.1) c.unwrap.ensures
