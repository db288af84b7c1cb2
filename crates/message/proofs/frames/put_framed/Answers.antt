-- `frames::put_framed` meets its contract: the bytes are copied behind the frame. Assumes nothing.
use Rattle.std.proofs.Common.{List, [], ◌∷◌, ℕ, ◌+◌, length, ap, refl, ◌∙◌, arith}
use Rattle.bucket.specs.Digits.{packed}
use Rattle.bucket.specs.Lists.{over}
use Rattle.bucket.proofs.OverLaws.{then_over}
use Rattle.message.specs.Kinds.{type_of}
use Rattle.message.proofs.WholeLaws.{whole_length}
use Rattle.message.proofs.WriteLaws.{frame_put}
use Rattle.message.proofs.frames.put_framed.Goals as goal

pub returns-clause-put : goal.returns-clause-put
returns-clause-put c = let a = c.args in
    let body = a.bytes.now in
    let frame = packed 16 ((4 + length body) ∷ type_of a.kind ∷ []) in
    let len = whole_length 2 ((4 + length body) ∷ type_of a.kind ∷ []) in
    let first = c.put_start.ensures in
    then_over a.at a.out.now frame body {p = a.at + 4} first
    c.put_bytes.ensures (omega arith) (omega arith)
    ∙ ap (λ (q : List ℕ). over a.at q a.out.now) (frame_put (type_of a.kind) (length body) body refl)
