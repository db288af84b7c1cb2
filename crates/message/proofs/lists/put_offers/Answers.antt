use Rattle.std.proofs.Common.{◌≡◌, ◌<◌, ◌≤◌, ◌+◌, ◌%◌, min, ℕ, List, ◌++◌, length, length-append, take, drop, ap, subst, ◌∙◌, arith}
use Rattle.std.proofs.Math.Seq.{take-append_seam, drop-append_seam}
use Rattle.std.specs.Slice.Iter.{chunks_rest}
use Rattle.bucket.specs.Digits.{Below}
use Rattle.bucket.specs.Lists.{over}
use Rattle.filter.specs.Table.{hashes_of}
use Rattle.filter.proofs.TableLaws.{hashes-length}
use Rattle.message.specs.Layout.{framed}
use Rattle.message.specs.Putting.{framed_hashes}
use Rattle.message.proofs.CutLaws.{Cutting, cutting_room, cutting_next, cutting_end}
use Rattle.message.proofs.HashLaws.{hashes-append, framed-whole, framed-hashes-length}
use Rattle.message.proofs.WholeLaws.{take_below, drop-below}
use Rattle.message.proofs.lists.put_offers.Goals as goal

-- a piece of what is left in bytes is one in hashes
module _ (rest a behind : List ℕ) (whole : length rest % 64 ≡ 0) (cut : rest ≡ a ++ behind) (size : length a ≡ min 65472 (length rest)) (some : 0 < length rest) where
  piece_whole : length a % 64 ≡ 0
  piece_whole = omega arith

  behind_whole : length behind % 64 ≡ 0
  behind_whole = omega (arith, piece_whole, ap length cut ∙ length-append a behind)

  in_hashes : hashes_of rest ≡ hashes_of a ++ hashes_of behind
  in_hashes = ap hashes_of cut ∙ hashes-append a behind piece_whole

  size_in_hashes : length (hashes_of a) ≡ min 1023 (length (hashes_of rest))
  size_in_hashes = omega (arith, hashes-length a, hashes-length rest)

  some_hash : 0 < length (hashes_of rest)
  some_hash = omega (arith, hashes-length rest)

  below : Below 8 rest → Below 8 a × Below 8 behind
  below h = (
    subst (Below 8) (ap (take (length a)) cut ∙ take-append_seam a behind) (take_below 8 (length a) rest h),
    subst (Below 8) (ap (drop (length a)) cut ∙ drop-append_seam a behind) (drop-below 8 (length a) rest h),
  )

  module _ (kind : ℕ) {at p : ℕ} {t out₀ out : List ℕ} (cutting : Cutting 1023 4 64 (framed_hashes kind) at t out₀ out p (hashes_of rest)) where
    piece_room : p + (4 + length a) ≤ length out
    piece_room =
        omega (arith, hashes-length a, piece_whole, cutting_room (omega arith) cutting (hashes_of a) (hashes_of behind) in_hashes size_in_hashes some_hash)

    piece_next : Below 8 a → {out' : List ℕ} {p' : ℕ} → p' ≡ p + (4 + length a) → out' ≡ over p (framed kind a) out
        → Cutting 1023 4 64 (framed_hashes kind) at t out₀ out' p' (hashes_of behind)
    piece_next h ep o =
        cutting_next (omega arith) cutting (hashes_of a) (hashes_of behind) in_hashes size_in_hashes some_hash (framed-hashes-length kind)
        (omega (arith, ep, hashes-length a, piece_whole)) (o ∙ ap (λ (l : List ℕ). over p l out) (framed-whole a h piece_whole kind))

pub put_framed-p-requires : goal.put_framed-p-requires
put_framed-p-requires c = let k = c.loop-piece.invariant in
    let cut = c.in-Some.ensures.steps.1 in
    piece_room _ _ _ k.whole cut.0 (rw k.size at cut.1) cut.2 _ k.cutting

pub loop-piece-preserved : goal.loop-piece-preserved
loop-piece-preserved c = let k = c.loop-piece.invariant in
    let step = c.in-Some.ensures.steps in
    let cut = step.1 in
    let size = rw k.size at cut.1 in
    let put = c.put_framed-p.ensures in
    let bytes = below _ _ _ k.whole cut.0 size cut.2 k.bytes in
    record {
      size = step.0 ∙ k.size;
      whole = behind_whole _ _ _ k.whole cut.0 size cut.2;
      bytes = bytes.1;
      cutting = piece_next _ _ _ k.whole cut.0 size cut.2 _ k.cutting bytes.0 put.next put.put;
    }

pub returns : goal.returns
returns c = let none = c.in-None.ensures.steps.1.0 in
    cutting_end (omega arith) c.loop-piece.invariant.cutting (omega (arith, hashes-length (chunks_rest c.loop-piece.piece-iterator)))
