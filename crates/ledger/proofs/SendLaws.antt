-- A message's writer that is given its room and its range writes: its answer is the position behind what it wrote, and no refusal. Assumes nothing.
use mathlib.Core.Path.{◌≡◌, ap}
use mathlib.Core.Bool.{true}
use mathlib.Core.List.{List, [], ◌∷◌}
use Prim.Native.Nat.{ℕ, ◌+◌, ◌≤◌, ◌<◌, ◌%◌}
use native.Mathlib.Omega.{arith}
use borrow.Author.Tests.{lt-ltb, le-leb, eq-eqb}
use lib.ListN.{length, take}
use Rattle.std.specs.Prelude.{Result, Ok, IsOk}
use Rattle.std.proofs.Common.{rules}
use Rattle.bucket.specs.Columns.{Columns}
use Rattle.bucket.specs.Digits.{joined}
use Rattle.bucket.specs.Lists.{over}
use Rattle.filter.specs.declared.answers.Refusal.{Refusal}
use Rattle.filter.specs.Calls.{in_range, are_counts, has_room}
use Rattle.filter.specs.Table.{hashes_of}
use Rattle.message.specs.Layout.{Content, done}
use Rattle.message.specs.Writing.{layouts, inquiries_of, width_for, slices_of, have_room, Write, write, wrote, inquiry_call, hashes_call, done_call, filter_call}
use Rattle.ledger.proofs.RoomLaws.{done-length}

-- messages written from a position on
abbrev pub written : List Content → ℕ → List ℕ → Write
written cs at out = write (Ok (at + length (layouts cs))) (over at (layouts cs) out)

module _ (cs : List Content) (at : ℕ) (out : List ℕ) {r : Result ℕ Refusal} {o : List ℕ} (e : write r o ≡ written cs at out) where
  answers : r ≡ Ok (at + length (layouts cs))
  answers = ap (λ (w : Write). w.answer) e

  pub not_refused : IsOk r
  not_refused = rw answers (search rules)

  pub sent_to : {n : ℕ} → r ≡ Ok n → (n ≡ at + length (layouts cs)) × (o ≡ over at (layouts cs) out)
  sent_to h = let a = answers in (cc, ap (λ (w : Write). w.out) e)

fits-within : (cs : List Content) (at : ℕ) (out : List ℕ) → at + length (layouts cs) ≤ length out → have_room cs at out ≡ true
unfolding have_room
fits-within cs at out h = le-leb _ _ h

pub inquiry_writes : (salt : ℕ) (ids : List ℕ) (at : ℕ) (out : List ℕ) → salt < 64 → at + length (layouts (inquiries_of salt ids)) ≤ length out
    → inquiry_call salt ids at out ≡ written (inquiries_of salt ids) at out
unfolding inquiry_call wrote
inquiry_writes salt ids at out h k = rw (lt-ltb salt 64 h, fits-within (inquiries_of salt ids) at out k)

pub hashes-write : (say : List ℕ → List Content) (bytes : List ℕ) (at : ℕ) (out : List ℕ) → length bytes % 64 ≡ 0 → at + length (layouts (say (hashes_of bytes))) ≤ length out
    → hashes_call say bytes at out ≡ written (say (hashes_of bytes)) at out
unfolding hashes_call wrote
hashes-write say bytes at out h k = rw (eq-eqb _ _ h, fits-within (say (hashes_of bytes)) at out k)

pub done_writes : (check : List ℕ) (at : ℕ) (out : List ℕ) → 64 ≤ length check → at + 68 ≤ length out
    → done_call check at out ≡ written (done (joined 8 (take 64 check)) ∷ []) at out
unfolding done_call wrote
done_writes check at out h k =
    let x = joined 8 (take 64 check) in
    rw (le-leb 64 (length check) h, fits-within (done x ∷ []) at out (omega (arith, done-length x)))

pub filter_writes : (size salt : ℕ) (c : Columns) (at : ℕ) (out : List ℕ) → are_counts size c.counts ≡ true → in_range size salt ≡ true → has_room size c ≡ true
    → at + length (layouts (slices_of size salt (width_for size c.counts) c)) ≤ length out
    → filter_call size salt c at out ≡ written (slices_of size salt (width_for size c.counts) c) at out
unfolding filter_call wrote
filter_writes size salt c at out h k r f = rw (h, k, r, fits-within (slices_of size salt (width_for size c.counts) c) at out f)
