-- `differ::text::put_listing` meets its contract: its three texts are written one behind the other. Assumes nothing.
use native.Mathlib.Omega.{arith}
use Rattle.differ.specs.Text.{ours_label, theirs_label, lines, heading, listing}
use Rattle.differ.proofs.TextLaws.{listing-length, writes_three}
use Rattle.differ.proofs.text.put_listing.Goals as goal

pub put_heading-p-requires : goal.put_heading-p-requires
put_heading-p-requires c = let a = c.args in
    omega (arith, listing-length a.size a.complete a.ours.now a.theirs.now)

pub put_lines-q-requires : goal.put_lines-q-requires
put_lines-q-requires c = let a = c.args in
    let w = c.put_heading-p.ensures in
    omega (arith, listing-length a.size a.complete a.ours.now a.theirs.now, w.next, w.same)

pub put_lines-requires : goal.put_lines-requires
put_lines-requires c = let a = c.args in
    let w = c.put_heading-p.ensures in
    let x = c.put_lines-q.ensures in
    omega (arith, listing-length a.size a.complete a.ours.now a.theirs.now, w.next, w.same, x.next, x.same)

pub returns : goal.returns
unfolding listing
returns c = let a = c.args in
    writes_three (heading a.size a.complete) (lines ours_label a.ours.now) (lines theirs_label a.theirs.now)
    c.put_heading-p.ensures c.put_lines-q.ensures c.put_lines.ensures (omega arith)
