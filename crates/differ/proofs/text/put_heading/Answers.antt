-- `differ::text::put_heading` meets its contract: its five texts are written one behind the other. Assumes nothing.
use native.Mathlib.Omega.{arith}
use mathlib.Core.List.{◌++◌}
use lib.ListN.{length-append}
use Rattle.differ.specs.Text.{decimal, newline, size_label, complete_label, heading}
use Rattle.differ.proofs.TextLaws.{heading-length, writes_three}
use Rattle.differ.proofs.text.put_heading.Goals as goal

pub put_bytes-p-requires : goal.put_bytes-p-requires
put_bytes-p-requires c = let a = c.args in
    omega (arith, heading-length a.size a.complete)

pub put_decimal-q-requires : goal.put_decimal-q-requires
put_decimal-q-requires c = let a = c.args in
    let w = c.put_bytes-p.ensures in
    omega (arith, heading-length a.size a.complete, w.next, w.same)

pub put_bytes-s-requires : goal.put_bytes-s-requires
put_bytes-s-requires c = let a = c.args in
    let w = c.put_bytes-p.ensures in
    let x = c.put_decimal-q.ensures in
    omega (arith, heading-length a.size a.complete, w.next, w.same, x.next, x.same)

pub put_decimal-t-requires : goal.put_decimal-t-requires
put_decimal-t-requires c = let a = c.args in
    let w = c.put_bytes-p.ensures in
    let x = c.put_decimal-q.ensures in
    let y = c.put_bytes-s.ensures in
    omega (arith, heading-length a.size a.complete, w.next, w.same, x.next, x.same, y.next, y.same)

pub put_bytes-requires : goal.put_bytes-requires
put_bytes-requires c = let a = c.args in
    let w = c.put_bytes-p.ensures in
    let x = c.put_decimal-q.ensures in
    let y = c.put_bytes-s.ensures in
    let z = c.put_decimal-t.ensures in
    omega (arith, heading-length a.size a.complete, w.next, w.same, x.next, x.same, y.next, y.same, z.next, z.same)

pub returns : goal.returns
unfolding heading
returns c = let a = c.args in
    let w = c.put_bytes-p.ensures in
    let x = c.put_decimal-q.ensures in
    let room = heading-length a.size a.complete in
    writes_three size_label (decimal a.size) (complete_label ++ (decimal a.complete ++ newline)) w x
    (writes_three complete_label (decimal a.complete) newline c.put_bytes-s.ensures c.put_decimal-t.ensures c.put_bytes.ensures
    (simp length-append (omega (arith, room, w.next, w.same, x.next, x.same))))
    (omega arith)
