-- `frames::put_head` meets its contract: three pairs, one behind the other. Assumes nothing.
use Rattle.std.proofs.Common.{List, [], ◌∷◌, ◌++◌, ℕ, ap, ◌∙◌, append_assoc, length-append, arith}
use Rattle.bucket.specs.Digits.{packed}
use Rattle.bucket.specs.Lists.{over}
use Rattle.bucket.proofs.OverLaws.{then_over}
use Rattle.message.specs.Layout.{slice_type, slice_bytes}
use Rattle.message.specs.Putting.{head_of}
use Rattle.message.proofs.WholeLaws.{whole_length}
use Rattle.message.proofs.frames.put_head.Goals as goal

pub returns-clause-put : goal.returns-clause-put
unfolding head_of
returns-clause-put c = let a = c.args in
    let s = a.slice in
    let x = packed 16 (slice_bytes s.width s.count ∷ slice_type s.size s.offset ∷ []) in
    let y = packed 32 (s.size ∷ s.offset ∷ []) in
    let z = packed 16 (s.salt ∷ s.width ∷ []) in
    let lx = whole_length 2 (slice_bytes s.width s.count ∷ slice_type s.size s.offset ∷ []) in
    let ly = whole_length 4 (s.size ∷ s.offset ∷ []) in
    let lz = whole_length 2 (s.salt ∷ s.width ∷ []) in
    let lxy = length-append x y in
    let first = rw (c.slice_bytes.ensures, c.slice_type.ensures) at c.put_start.ensures in
    let second = rw (c.from.ensures, c.from-2.ensures) at c.put_pair.ensures in
    let third = rw (c.from-3.ensures, c.from-4.ensures) at c.put_pair-2.ensures in
    then_over a.at a.out.now (x ++ y) z (then_over a.at a.out.now x y first second (omega arith) (omega arith)) third (omega arith) (omega arith)
    ∙ ap (λ (q : List ℕ). over a.at q a.out.now) (append_assoc x y z)
