-- `frames::put_inquiry` meets its contract: the salt is put behind the frame, and the IDs behind the salt. Assumes nothing.
use Rattle.std.proofs.Common.{List, [], ◌∷◌, ◌++◌, ℕ, ◌+◌, ◌*◌, length, length-append, ap, refl, ◌∙◌, arith}
use Rattle.std.proofs.lemmas.List.{map-id}
use Rattle.bucket.specs.Digits.{groups, packed}
use Rattle.bucket.specs.Lists.{over}
use Rattle.bucket.proofs.DigitLaws.{groups-length}
use Rattle.bucket.proofs.OverLaws.{then_over}
use Rattle.message.proofs.PutLaws.{put-there}
use Rattle.message.proofs.WholeLaws.{whole_length}
use Rattle.message.proofs.WriteLaws.{inquiry-put}
use Rattle.message.proofs.frames.put_inquiry.Goals as goal

pub returns-clause-put : goal.returns-clause-put
returns-clause-put c = let a = c.args in
    let ids = a.ids.now in
    let size = 8 + 8 * length ids in
    let frame = packed 16 (size ∷ 561 ∷ []) in
    let salt = groups 8 4 a.salt in
    let l1 = whole_length 2 (size ∷ 561 ∷ []) in
    let l2 = groups-length 8 4 a.salt in
    let l3 = whole_length 8 ids in
    let both = length-append frame salt in
    let first = c.put_start.ensures in
    let second = rw c.from.ensures at c.put_number.ensures ∙ put-there (a.at + 4) 4 a.salt _ (omega arith) (omega (arith, c.put_start.auto.out)) in
    let third = rw map-id at c.put_numbers.ensures.put in
    then_over a.at a.out.now (frame ++ salt) (packed 64 ids) (then_over a.at a.out.now frame salt first second (omega arith) (omega arith)) third
    (omega arith) (omega arith)
    ∙ ap (λ (q : List ℕ). over a.at q a.out.now) (inquiry-put a.salt ids (length ids) refl)
