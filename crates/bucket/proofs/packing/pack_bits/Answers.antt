use mathlib.Core.Path.{◌≡◌, sym, ap, ◌∙◌}
use Prim.Native.Nat.{ℕ, ◌-◌, ◌*◌, ◌/◌, ◌%◌, ◌^◌}
use native.Mathlib.Omega.{arith}
use lib.Bits.{bit_or}
use lib.IntN.{pos}
use lib.ListN.{length, get_or, length-map, length-set, get_or-map}
use Rattle.bucket.specs.Digits.{bit_at}
use Rattle.bucket.specs.Packing.{number, numbers}
use Rattle.bucket.proofs.BitLaws.{written_next}
use Rattle.bucket.proofs.NumberLaws.{count-stored}
use Rattle.bucket.proofs.PackedLaws.{written-packed}
use Rattle.bucket.proofs.packing.pack_bits.Goals as goal
use Rattle.bucket.proofs.packing.pack_bits.Goals.{After-bit_of-bit}

-- it is bit j of the counters
bit : (c : After-bit_of-bit) → let a = c.args in
    c.bit_of-bit.result ≡ bit_at a.w (numbers a.counts.now) c.loop-j.j
bit c = let a = c.args in
    let j = c.loop-j.j in
    c.bit_of-bit.ensures.0 ∙ ap (λ (x : ℕ). x / 2 ^ (a.w - 1 - j % a.w) % 2)
    (c.number_of-counter.ensures ∙ ap number (count-stored a.counts.now (j / a.w) c.number_of-arg-1.given) ∙ sym (get_or-map number a.counts.now (j / a.w) (pos 0)))

pub loop-j-preserved : goal.loop-j-preserved
loop-j-preserved c = let at = c.loop-j in
    let b = c.bit_of-bit.result in
    let kept = length-set at.out (at.j / 8) (bit_or (get_or at.out (at.j / 8) 0) (b * 2 ^ (7 - at.j % 8) % 2 ^ 8)) in
    (kept ∙ at.invariant.0, written_next at.invariant.1 (omega arith) b c.bit_of-bit.ensures.1 (bit (goal.at.loop-j-preserved c).After-bit_of-bit))

pub returns : goal.returns
returns c = let a = c.args in
    let at = c.loop-j in
    let same = length-map a.counts.now number in
    let end : at.j ≡ a.w * length a.counts.now = omega arith in
    written-packed a.w (numbers a.counts.now) at.out (omega arith) (rw same at.invariant.0) (rw (same, ← end) at.invariant.1)
