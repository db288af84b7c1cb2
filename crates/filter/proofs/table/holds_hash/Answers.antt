-- `filter::table::holds_hash` meets its contract: what stands where the search ends decides, and bytes of one length are the same if their numbers are.
-- Assumes nothing.
use mathlib.Core.Path.{◌≡◌, sym, ◌∙◌}
use mathlib.Core.Bool.{◌&&◌}
use Prim.Native.Nat.{◌*◌, ◌/◌, ◌<◌}
use native.Mathlib.Omega.{arith}
use borrow.Author.Tests.{le-leb}
use lib.Dec.{eqb, leb}
use lib.ListN.{length, get_or}
use Rattle.std.specs.Cmp.Lexicographic.{pointwise}
use Rattle.bucket.specs.Lists.{part}
use Rattle.bucket.proofs.OverLaws.{part_length}
use Rattle.filter.specs.Table.{hashes_of, holds}
use Rattle.filter.proofs.BisectLaws.{holds-there}
use Rattle.filter.proofs.CompareLaws.{same-joined, part-below}
use Rattle.filter.proofs.TableLaws.{hashes-length, hash-bytes}
use Rattle.filter.proofs.table.holds_hash.Goals as goal

pub bytes_of-requires : goal.bytes_of-requires
bytes_of-requires c = omega (arith, hashes-length c.args.table.now)

pub returns-then-at-count : goal.returns-then-at-count
returns-then-at-count c = let t = c.args.table.now in
    let h = c.args.hash.now in
    let at = c.hash_position-at in
    let inside : at.result < length t / 64 = omega (arith, hashes-length t) in
    let same =
    same-joined (part (at.result * 64) 64 t) (part 0 64 h)
    (part_length (at.result * 64) t 64 (omega arith) ∙ sym (part_length 0 h 64 (omega arith)))
    (part-below (at.result * 64) 64 t (λ n. (c.type_inv.table n).fits)) (part-below 0 64 h (λ n. (c.type_inv.hash n).fits)) in
    let held = holds-there (hashes_of t) (get_or (hashes_of h) 0 0) at.ensures (omega arith) in
    let long = le-leb 64 (length h) (omega arith) in
    let told : pointwise eqb c.bytes_of.result.now c.bytes_of-then-at-count.result.now ≡ leb 64 (length h) && holds (hashes_of t) (get_or (hashes_of h) 0 0) =
    rw (c.bytes_of.ensures, c.bytes_of-then-at-count.ensures, same, ← hash-bytes t at.result inside, ← hash-bytes h 0 (omega arith), held, long) in
    cc
