use mathlib.Core.Path.{◌≡◌, refl, ap, ◌∙◌}
use native.Mathlib.Omega.{arith}
use lib.ListN.{length, length-append}
use Rattle.bucket.proofs.DigitLaws.{groups-joined}
use Rattle.filter.specs.Table.{hashes_of}
use Rattle.session.proofs.ChunkLaws.{front-below, rest-below, hashes-cons, hashes_none}
use Rattle.session.proofs.GatheredLaws.{putting_start, putting_next, putting_end}
use Rattle.session.proofs.offering.store_all.Goals as goal

pub loop-hash-init : goal.loop-hash-init
loop-hash-init c = let a = c.args in
    rw (c.into_iter-hash-iterator.ensures.into_iter_gives, c.chunks_exact-hash-items.ensures.rest, c.chunks_exact-hash-items.ensures.size) record {
      size = refl;
      bytes = λ i. (c.type_inv.hashes i).fits;
      room = c.requires.2;
      put = putting_start a.n (hashes_of a.hashes.now) a.records.now a.marks.now;
    }

pub loop-hash-preserved : goal.loop-hash-preserved
loop-hash-preserved c = let at = c.loop-hash.invariant in
    let step = c.in-Some.ensures.steps in
    let h = c.in-Some.hash.now in
    let rest = c.next.new.self.rest.now in
    let size : length h ≡ 64 = step.1.1 ∙ at.size in
    let put = c.insert_hash-p.ensures in
    record {
      size = step.0 ∙ at.size;
      bytes = rest-below h rest step.1.0 at.bytes;
      room = omega (arith, at.room, ap length step.1.0, length-append h rest, size);
      put =
          putting_next at.put (hashes-cons h rest step.1.0 size) (rw size at (groups-joined 8 h (front-below h rest step.1.0 at.bytes)))
          put.0 put.2 c.insert_mark.ensures c.insert_hash-p.auto.hashes c.insert_mark.auto.marks;
    }

pub returns : goal.returns
returns c = putting_end c.loop-hash.invariant.put (hashes_none c.loop-hash.hash-iterator.rest.now (omega (arith, c.in-None.ensures.steps.1.0, c.loop-hash.invariant.size)))
