use mathlib.Core.Path.{refl, sym, ap, ◌∙◌}
use mathlib.Core.List.{List}
use Rattle.message.proofs.RoundLaws.{hashes-below}
use Prim.Native.Nat.{ℕ, ◌+◌, ◌≤◌, ◌*◌, ◌/◌, ◌<◌}
use native.Mathlib.Omega.{arith}
use lib.ListN.{length}
use Rattle.bucket.specs.Lists.{over}
use Rattle.session.proofs.ChunkLaws.{lent-length, lent_over}
use Rattle.session.proofs.PlaceLaws.{table-short, hash-size}
use Rattle.session.proofs.OfferAllLaws.{offering_start, offered-place, offering_next, offering_end}
use Rattle.session.proofs.filters.offer_all.Goals as goal
use Rattle.session.proofs.filters.offer_all.Goals.{After-id_position-p}

-- the element's hash is there
there : (c : After-id_position-p) → c.id_position-p.result < length c.args.table.now / 64
there c = offered-place c.loop-i.invariant c.requires.0 c.loop-i-test.true refl c.id_position-p.ensures

pub loop-i-init : goal.loop-i-init
loop-i-init c = let a = c.args in
    offering_start a.table.now a.ours.now a.marks.now a.hashes.now

pub bounds-marks-p : goal.bounds-marks-p
bounds-marks-p c = omega (arith, there c, table-short c.args.table.now c.requires.0.table-good, c.requires.0.marks-room, c.loop-i.invariant.same)

pub nth_hash-requires : goal.nth_hash-requires
nth_hash-requires c = omega (arith, there (goal.at.nth_hash-requires c).After-id_position-p)

pub copy_from_slice-requires : goal.copy_from_slice-requires
copy_from_slice-requires c = let a = c.args in
    let room : 64 * c.loop-i.i + 64 ≤ length c.loop-i.hashes = omega (arith, c.loop-i-test.true, c.requires.1, c.requires.2, c.loop-i.invariant.gathering.same) in
    lent-length (64 * c.loop-i.i) 64 c.loop-i.hashes room ∙ sym (hash-size _ (hashes-below a.table.now c.id_position-p.result) c.nth_hash.ensures)

pub loop-i-preserved : goal.loop-i-preserved
loop-i-preserved c = let a = c.args in
    let i = c.loop-i.i in
    let copied = c.copy_from_slice.ensures.after ∙ c.nth_hash.ensures in
    offering_next c.loop-i.invariant c.requires.0 c.loop-i-test.true refl c.id_position-p.ensures (omega (arith, c.loop-i-test.true, c.requires.1, c.requires.2))
    (lent_over (64 * i) 64 c.loop-i.hashes c.copy_from_slice.new.self (hash-size _ (hashes-below a.table.now c.id_position-p.result) copied)
    ∙ ap (λ (bs : List ℕ). over (64 * i) bs c.loop-i.hashes) copied)

pub returns : goal.returns
returns c = offering_end c.loop-i.invariant c.loop-i-test.false
