use mathlib.Core.Path.{◌≡◌, refl, ap, ◌∙◌}
use Prim.Native.Nat.{◌-◌}
use native.Mathlib.Omega.{arith}
use Rattle.bucket.specs.Crc.{steps, entry, crc_tables}
use Rattle.bucket.proofs.TableLaws.{filled-all, filled_more, entry_first, entry_next}
use Rattle.bucket.proofs.crc.tables.Goals as goal
use Rattle.bucket.proofs.crc.tables.Goals.{then-i-lt256, else-i-lt256}

pub loop-i-init : goal.loop-i-init
loop-i-init c = record { within = omega arith; long = refl; each = λ i l. absurd (omega arith) }

pub loop-i-preserved : goal.loop-i-preserved
loop-i-preserved c = let at = c.loop-i in
    filled_more entry 2048 at.i c.octet.result at.tab at.invariant c.loop-i-test.true
    (c.octet.ensures
    ∙ (elim c.if-i-lt256.branch [
      | then-i-lt256 w ↦ ap (steps 8) w.v-is ∙ entry_first at.i (omega arith)
      | else-i-lt256 w ↦ ap (steps 8) (w.v-is ∙ at.invariant.each (at.i - 256) (omega arith)) ∙ entry_next at.i (omega arith)
    ]))

pub returns : goal.returns
unfolding crc_tables
returns c = let at = c.loop-i in
    let all : at.i ≡ 2048 = omega arith in
    filled-all entry 2048 at.tab (rw all at at.invariant)
