-- `differ::text::put_bytes` meets its contract: the copied part is the text, laid over the memory. Assumes nothing.
use mathlib.Core.Path.{refl, ap, ◌∙◌}
use mathlib.Core.List.{List}
use Prim.Native.Nat.{ℕ, ◌+◌, ◌-◌}
use native.Mathlib.Omega.{arith}
use lib.ListN.{length}
use borrow.Rule.Slice.PartMut.{put_mid}
use Rattle.bucket.proofs.OverLaws.{over-part, over-length}
use Rattle.differ.proofs.text.put_bytes.Goals as goal

pub returns : goal.returns
returns c = let a = c.args in
    let e = a.at + length a.text.now in
    let laid = ap (λ (t : List ℕ). put_mid a.at (e - a.at) a.out.now t) c.copy_from_slice.ensures.after ∙ over-part a.at e a.text.now a.out.now refl in
    let same = ap length laid ∙ over-length a.at a.out.now a.text.now c.requires in
    record { next = refl; within = omega (arith, same, c.requires); same = same; laid = laid }
