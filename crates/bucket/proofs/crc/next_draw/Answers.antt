-- `bucket::crc::next_draw` meets its contract: the four bytes of d are looked up from row 4, and the lowest of i in row 0. Assumes nothing.
use mathlib.Core.Path.{ap, ◌∙◌}
use Rattle.bucket.specs.Crc.{looked_up, next_by}
use Rattle.bucket.proofs.crc.next_draw.Goals as goal

pub returns : goal.returns
unfolding next_by
returns c = let args = c.args in
    c.looked_up.ensures ∙ ap (looked_up args.tab.now 0 args.i 1) c.looked_up-c.ensures
