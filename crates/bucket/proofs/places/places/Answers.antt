use mathlib.Core.Path.{◌≡◌, sym, ap, ◌∙◌}
use mathlib.Core.Bool.{false}
use mathlib.Core.List.{List}
use Prim.Native.Nat.{ℕ, ◌≤◌, min}
use native.Mathlib.Omega.{arith}
use Rattle.bucket.specs.Crc.{next_by}
use lib.ListN.{length, take}
use lib.Seq.{take_all}
use Rattle.bucket.specs.Lists.{pad, elem}
use Rattle.bucket.proofs.ListLaws.{elem-nil, elem_at, elem-take-more}
use Rattle.bucket.proofs.SearchLaws.{drawing_start, drawing_last, drawing_skip, drawing_take, drawing_done}
use Rattle.bucket.proofs.PlaceLaws.{places-back}
use Rattle.bucket.proofs.places.places.Goals as goal
use Rattle.bucket.proofs.places.places.Goals.{then-loop-p-test+then-p-c, else-loop-p-test+else-n-most, else-draws-test, then-draws-test+else-loop-p-test+then-n-most}

-- none of those passed is none of all
passed : (a i : ℕ) (l : List ℕ) → elem a (take i l) ≡ false → length l ≤ i → elem a l ≡ false
passed a i l e h = sym (ap (elem a) (take_all i l h)) ∙ e

pub returns-then-most-eq0 : goal.returns-then-most-eq0
unfolding pad
returns-then-most-eq0 c = let args = c.args in
    ap (pad 4) (places-back (next_by args.tab.now) (min 4 args.k) args.size args.d 4 0 (omega arith))

pub draws-init : goal.draws-init
draws-init c = let args = c.args in
    drawing_start (next_by args.tab.now) (min 4 args.k) args.size args.d (omega arith) (omega arith) (omega arith)

pub loop-p-init : goal.loop-p-init
loop-p-init c = elem-nil _

pub loop-p-preserved : goal.loop-p-preserved
loop-p-preserved c = elem-take-more _ _ c.loop-p.p-index c.loop-p-test.true c.loop-p.invariant c.if-p-c.false

pub draws-preserved : goal.draws-preserved
draws-preserved c = let at = c.draws in
    let next = c.next_draw-e in
    elim c.loop-p-test.branch [
      | then-loop-p-test+then-p-c w ↦
          rw (w.taken-is, w.n-is)
          (drawing_skip at.invariant (omega arith) (rw w.if-p-c.true at (elem_at (take at.n at.taken) c.loop-p.p-index w.loop-p-test.true)) next.result next.ensures)
      | else-loop-p-test+else-n-most w ↦
          rw (w.taken-is, w.n-is)
          (drawing_take at.invariant (omega arith) (passed _ _ _ c.loop-p.invariant (omega arith)) (λ q. omega arith) next.result next.ensures)
    ]

pub returns-then-n-most-2 : goal.returns-then-n-most-2
returns-then-n-most-2 c = let s = c.draws.invariant in
    let most : c.min-most.result ≡ min 4 c.args.k = omega arith in
    elim c.draws-test.branch [
      | else-draws-test w ↦ c.fill.ensures ∙ rw (w.taken-is, w.n-is, s.search.room, most) (ap (pad 4) (drawing_last s (omega arith)))
      | then-draws-test+else-loop-p-test+then-n-most w ↦ absurd (omega arith)
    ]

pub returns-else-n-most-2 : goal.returns-else-n-most-2
returns-else-n-most-2 c = let s = c.draws.invariant in
    elim c.draws-test.branch [
      | else-draws-test w ↦ absurd (omega (arith, s.short))
      | then-draws-test+else-loop-p-test+then-n-most w ↦ rw w.taken-is (drawing_done s (omega arith) (passed _ _ _ w.loop-p.invariant (omega arith)) (omega arith))
    ]
