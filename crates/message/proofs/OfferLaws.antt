-- A writer of hashes, over the message that holds them: what its messages' bytes are, and its answer at each of its tests. Assumes nothing.
use mathlib.Core.Path.{◌≡◌, refl, sym, ap, ◌∙◌}
use mathlib.Core.List.{List, map}
use Prim.Native.Nat.{ℕ, ◌+◌, ◌/◌, ◌%◌}
use native.Mathlib.Omega.{arith}
use borrow.Author.Tests.{eq-eqb, ne_eqb}
use lib.Dec.{leb}
use lib.ListN.{length}
use Rattle.std.specs.Prelude.{cond, Result, Ok, Err}
use Rattle.bucket.specs.Lists.{over}
use Rattle.filter.specs.declared.answers.Refusal.{Refusal}
use Rattle.filter.specs.declared.answers.Refusal.TheVariants.{Form, Room}
use Rattle.filter.specs.Table.{hashes_of}
use Rattle.filter.proofs.TableLaws.{hashes-length}
use Rattle.message.specs.Layout.{Content, offer, demand, layout}
use Rattle.message.specs.Writing.{layouts, pieces, write, wrote, hashes_call}
use Rattle.message.specs.Putting.{cut_bytes, end_to_end, framed_hashes, Says}
use Rattle.message.proofs.CutLaws.{cut-length, layouts-map}
use Rattle.message.proofs.HashLaws.{framed-hashes-length}
use Rattle.message.proofs.WriteLaws.{room-short, room-there, room_tested, wrote-there}

pub offer-says : Says 562 offer
unfolding layout framed_hashes
offer-says hs = refl

pub demand-says : Says 560 demand
unfolding layout framed_hashes
demand-says hs = refl

module _ (say : List ℕ → Content) (kind : ℕ) (lays : Says kind say) (t : List ℕ) (at : ℕ) (out : List ℕ) where
  abbrev cs : List Content
  cs = map say (pieces 1023 (hashes_of t))

  laid : layouts cs ≡ end_to_end (framed_hashes kind) (pieces 1023 (hashes_of t))
  laid = layouts-map say (framed_hashes kind) lays (pieces 1023 (hashes_of t))

  size : {total : ℕ} → total ≡ cut_bytes 1023 4 64 (length t / 64) → length (layouts cs) ≡ total
  size e =
      ap length laid ∙ cut-length 1023 (framed_hashes kind) (omega arith) 4 64 (framed-hashes-length kind) (hashes_of t)
      ∙ ap (cut_bytes 1023 4 64) (hashes-length t) ∙ sym e

  pub hashes_torn : (length t % 64 ≡ 0 → ⊥) → write (Err Form) out ≡ hashes_call (λ hs. map say (pieces 1023 hs)) t at out
  unfolding hashes_call wrote
  hashes_torn h = rw (ne_eqb (length t % 64) 0 h)

  module _ (whole : length t % 64 ≡ 0) {total : ℕ} (e : total ≡ cut_bytes 1023 4 64 (length t / 64)) {r : Result ℕ Refusal}
      (tested : r ≡ cond (leb (at + total) (length out)) (Ok (at + total)) (Err Room)) where
    pub hashes-refused : {why : Refusal} → r ≡ Err why → write (Err why) out ≡ hashes_call (λ hs. map say (pieces 1023 hs)) t at out
    unfolding hashes_call wrote
    hashes-refused h =
        let k = room-short at total (length out) tested h in
        rw (eq-eqb (length t % 64) 0 whole, room_tested cs at out total (size e) k.0, k.1)

    pub hashes-written : {end : ℕ} {out' : List ℕ} → r ≡ Ok end → out' ≡ over at (end_to_end (framed_hashes kind) (pieces 1023 (hashes_of t))) out
        → write (Ok end) out' ≡ hashes_call (λ hs. map say (pieces 1023 hs)) t at out
    unfolding hashes_call
    hashes-written h o =
        let k = room-there at total (length out) tested h in
        rw (eq-eqb (length t % 64) 0 whole, room_tested cs at out total (size e) k.0) (wrote-there cs at out total (size e) laid o k.1)
