-- `filter::table::element_id` meets its contract: a hash that is there has 64 bytes, of which the first eight are its ID. Assumes nothing.
use mathlib.Core.Path.{◌≡◌, sym, ap, ◌∙◌}
use Prim.Native.Nat.{ℕ, ◌*◌}
use native.Mathlib.Nat.{mul_comm}
use native.Mathlib.Omega.{arith}
use lib.ListN.{take}
use Rattle.bucket.specs.Digits.{joined}
use Rattle.bucket.specs.Lists.{part}
use Rattle.bucket.proofs.OverLaws.{part_length}
use Rattle.filter.specs.Table.{first_eight}
use Rattle.filter.proofs.TableLaws.{hashes-length, id-at, id-past}
use Rattle.filter.proofs.CompareLaws.{be-joined, part-below, first-of-part}
use Rattle.filter.proofs.table.element_id.Goals as goal

pub returns-then-count-i : goal.returns-then-count-i
returns-then-count-i c = let a = c.args in
    sym (id-past first_eight a.table.now a.i (omega (arith, hashes-length a.table.now)))

pub bytes_of-requires : goal.bytes_of-requires
bytes_of-requires c = omega (arith, hashes-length c.args.table.now)

pub unwrap-requires : goal.unwrap-requires
unwrap-requires c = let a = c.args in
    let t = a.table.now in
    c.first_chunk.ensures.variant.1 (rw c.bytes_of.ensures (omega (arith, hashes-length t, part_length (a.i * 64) t 64)))

pub returns : goal.returns
returns c = let a = c.args in
    let t = a.table.now in
    let first = rw c.unwrap.ensures at c.first_chunk.ensures.cases in
    let e : c.unwrap.result.now ≡ part (a.i * 64) 8 t = first.same ∙ ap (take 8) c.bytes_of.ensures ∙ first-of-part (a.i * 64) t in
    c.from_be_bytes.ensures
    ∙ rw e (be-joined (part (a.i * 64) 8 t) (part_length (a.i * 64) t 8 (omega (arith, hashes-length t))) (part-below (a.i * 64) 8 t (λ n. (c.type_inv.table n).fits)))
    ∙ ap (λ (n : ℕ). joined 8 (part n 8 t)) (mul_comm a.i 64)
    ∙ sym (id-at t a.i (omega (arith, hashes-length t)))
