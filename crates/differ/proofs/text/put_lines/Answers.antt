use mathlib.Core.Path.{sym, ap}
use mathlib.Core.List.{List}
use Prim.Native.Nat.{ℕ}
use native.Mathlib.Omega.{arith}
use lib.Seq.{take_all}
use lib.ListN.{take, get_or, length-append}
use Rattle.differ.specs.Text.{line, lines}
use Rattle.differ.proofs.TextLaws.{lines_next, lines-room, writes_as, writes_none, writes_then}
use Rattle.differ.proofs.text.put_lines.Goals as goal

pub loop-id-init : goal.loop-id-init
unfolding lines
loop-id-init c = let a = c.args in
    writes_none a.at a.out.now (omega arith)

pub put_line-p-requires : goal.put_line-p-requires
put_line-p-requires c = let a = c.args in
    let at = c.loop-id in
    omega (arith, lines-room a.label.now a.ids.now at.id-index (omega arith), at.invariant.next, at.invariant.same)

pub loop-id-preserved : goal.loop-id-preserved
loop-id-preserved c = let a = c.args in
    let at = c.loop-id in
    let done = lines a.label.now (take at.id-index a.ids.now) in
    let more = line a.label.now (get_or a.ids.now at.id-index 0) in
    let room = lines-room a.label.now a.ids.now at.id-index (omega arith) in
    writes_as (sym (lines_next a.label.now a.ids.now at.id-index (omega arith)))
    (writes_then done more at.invariant c.put_line-p.ensures (omega (arith, room, length-append done more)))

pub returns : goal.returns
returns c = let a = c.args in
    let at = c.loop-id in
    writes_as (ap (λ (t : List ℕ). lines a.label.now t) (take_all at.id-index a.ids.now (omega arith))) at.invariant
