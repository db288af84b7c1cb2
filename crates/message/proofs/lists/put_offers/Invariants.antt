-- `lists::put_offers` meets its contract. The loop's invariant: whole hashes are left, and they, written from p on, give the whole. Assumes nothing.
use Rattle.std.proofs.Common.{◌≡◌, ◌%◌, length}
use Rattle.std.specs.Slice.Iter.{chunks_rest, chunks_size}
use Rattle.bucket.specs.Digits.{Below}
use Rattle.filter.specs.Table.{hashes_of}
use Rattle.message.specs.Kinds.{type_of}
use Rattle.message.specs.Putting.{framed_hashes}
use Rattle.message.proofs.CutLaws.{Cutting}
use Rattle.message.proofs.lists.put_offers.Given as goal

abbrev pub invariant-loop-piece : goal.invariant-loop-piece
invariant-loop-piece l = let rest = chunks_rest l.piece-iterator in
    record {
      size : chunks_size l.piece-iterator ≡ 65472;
      whole : length rest % 64 ≡ 0;
      bytes : Below 8 rest;
      cutting : Cutting 1023 4 64 (framed_hashes (type_of l.kind)) l.at (hashes_of l.bytes) l.initial.out l.out l.p (hashes_of rest);
    }
