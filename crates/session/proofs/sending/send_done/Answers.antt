-- `sending::send_done` meets its contract: given its room, the writer writes. Assumes nothing.
use mathlib.Core.Path.{◌∙◌}
use mathlib.Core.List.{[], ◌∷◌}
use lib.ListN.{take}
use Rattle.bucket.specs.Digits.{joined}
use Rattle.message.specs.Layout.{done}
use Rattle.ledger.proofs.SendLaws.{sent_to, not_refused, done_writes}
use Rattle.session.proofs.sending.send_done.Goals as goal

pub unwrap-requires : goal.unwrap-requires
unwrap-requires c = let a = c.args in not_refused (done (joined 8 (take 64 a.check.now)) ∷ []) a.at a.out.now (c.done.ensures ∙ done_writes a.check.now a.at a.out.now c.requires.0 c.requires.1)

pub returns : goal.returns
returns c = let a = c.args in
    sent_to (done (joined 8 (take 64 a.check.now)) ∷ []) a.at a.out.now (c.done.ensures ∙ done_writes a.check.now a.at a.out.now c.requires.0 c.requires.1) c.unwrap.ensures
