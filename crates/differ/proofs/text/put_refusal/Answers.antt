-- `differ::text::put_refusal` meets its contract: its three texts are written one behind the other. Assumes nothing.
use native.Mathlib.Omega.{arith}
use Rattle.differ.specs.Text.{decimal, newline, refused_label, refusal}
use Rattle.differ.proofs.TextLaws.{refusal-length, writes_three}
use Rattle.differ.proofs.text.put_refusal.Goals as goal

pub put_bytes-p-requires : goal.put_bytes-p-requires
put_bytes-p-requires c = omega (arith, refusal-length c.args.n)

pub put_decimal-q-requires : goal.put_decimal-q-requires
put_decimal-q-requires c = let w = c.put_bytes-p.ensures in
    omega (arith, refusal-length c.args.n, w.next, w.same)

pub put_bytes-requires : goal.put_bytes-requires
put_bytes-requires c = let w = c.put_bytes-p.ensures in
    let v = c.put_decimal-q.ensures in
    omega (arith, refusal-length c.args.n, w.next, w.same, v.next, v.same)

pub returns : goal.returns
unfolding refusal
returns c = writes_three refused_label (decimal c.args.n) newline c.put_bytes-p.ensures c.put_decimal-q.ensures c.put_bytes.ensures (omega arith)
