-- `lists::put_inquiries` meets its contract. The loop's invariant: what is left of the IDs, written from p on, gives the whole. Assumes nothing.
use Rattle.std.proofs.Common.{◌≡◌}
use Rattle.std.specs.Slice.Iter.{chunks_rest, chunks_size}
use Rattle.message.specs.Layout.{inquiry, layout}
use Rattle.message.proofs.CutLaws.{Cutting}
use Rattle.message.proofs.lists.put_inquiries.Given as goal

abbrev pub invariant-loop-piece : goal.invariant-loop-piece
invariant-loop-piece l =
    (chunks_size l.piece-iterator ≡ 8190)
    × Cutting 8190 8 8 (λ v. layout (inquiry l.salt v)) l.at l.ids l.initial.out l.out l.p (chunks_rest l.piece-iterator)
