-- `differ::text::put_line` meets its contract: its three texts are written one behind the other. Assumes nothing.
use native.Mathlib.Omega.{arith}
use Rattle.differ.specs.Text.{hex16, newline, line}
use Rattle.differ.proofs.TextLaws.{line-length, hex_length, writes_three}
use Rattle.differ.proofs.text.put_line.Goals as goal

pub put_bytes-p-requires : goal.put_bytes-p-requires
put_bytes-p-requires c = omega (arith, line-length c.args.label.now c.args.id)

pub put_hex-q-requires : goal.put_hex-q-requires
put_hex-q-requires c = let a = c.args in
    let w = c.put_bytes-p.ensures in
    omega (arith, line-length a.label.now a.id, w.next, w.same)

pub put_bytes-requires : goal.put_bytes-requires
put_bytes-requires c = let a = c.args in
    let w = c.put_bytes-p.ensures in
    let v = c.put_hex-q.ensures in
    omega (arith, line-length a.label.now a.id, hex_length a.id, w.next, w.same, v.next, v.same)

pub returns : goal.returns
unfolding line
returns c = let a = c.args in
    writes_three a.label.now (hex16 a.id) newline c.put_bytes-p.ensures c.put_hex-q.ensures c.put_bytes.ensures c.requires
