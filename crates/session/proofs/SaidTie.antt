-- The ties of the two slices, of what a message's bytes say. Assumes nothing.
use mathlib.Core.Path.{◌≡◌, sym, ap, ◌∙◌}
use mathlib.Core.List.{List}
use Prim.Native.Nat.{ℕ, ◌+◌, ◌*◌}
use Rattle.std.proofs.Common.{Option, Some}
use Rattle.bucket.specs.Columns.{Columns}
use Rattle.bucket.specs.Digits.{unpacked}
use Rattle.bucket.specs.Lists.{part}
use Rattle.bucket.specs.Packing.{counters_at}
use Rattle.filter.specs.Table.{first_eight}
use Rattle.message.specs.declared.kinds.Message.{Message}
use Rattle.message.specs.declared.kinds.Message.TheVariants.{Ibf, IbfLast}
use Rattle.message.specs.declared.kinds.Slice.{Slice}
use Rattle.message.specs.Reading.{content}
use Rattle.message.specs.Walking.{exactly_one}
use Rattle.message.proofs.SoundLaws.{read-good}
use Rattle.ledger.specs.declared.numbers.Answer.{Answer}
use Rattle.ledger.specs.Calls.{Given, left, step_said}
use Rattle.session.specs.Turns.{SliceTurn, slice_turn, slice_turn', LastTurn, last_turn, last_turn', untouched}
use Rattle.ledger.proofs.Sound.{Sound}
use Rattle.session.proofs.LastGranted.{last_is_last, other_not_last}
use Rattle.session.proofs.SliceTie.{slice_tie}
use Rattle.session.proofs.LastTie.{last_tie}

module _ (G : Given) (s : Sound G) (t : Slice) where
  abbrev n : ℕ
  n = t.count

  abbrev ids : List ℕ
  ids = unpacked 64 n (part 16 (8 * n) G.message)

  abbrev hashes : List ℕ
  hashes = unpacked 32 n (part (16 + 8 * n) (4 * n) G.message)

  abbrev counts : List ℕ
  counts = counters_at t.width n (16 + 12 * n) G.message

  pub slice-said : {r : Answer} {cols : Columns} → exactly_one G.message ≡ Some (Ibf t)
      → slice_turn' r cols ≡ slice_turn G.numbers (content (Ibf t) G.message) t G.columns
      → left r G.records G.marks G.inquired cols G.ours G.theirs G.out ≡ step_said first_eight (exactly_one G.message) G
  unfolding content step_said
  slice-said e is =
      ap (λ (x : SliceTurn). left x.answer G.records G.marks G.inquired x.columns G.ours G.theirs G.out) is
      ∙ slice_tie G s t ids hashes counts (other_not_last G.message t e)
      ∙ ap (λ (m : Option Message). step_said first_eight m G) (sym e)

  pub last_said : {r : Answer} {M' I' o th out' : List ℕ} {cols : Columns} → exactly_one G.message ≡ Some (IbfLast t)
      → last_turn' r M' I' (untouched cols o th) out'
      ≡ last_turn G.numbers G.table (content (IbfLast t) G.message) t G.columns G.ours G.theirs G.marks G.inquired G.out
      → left r G.records M' I' cols o th out' ≡ step_said first_eight (exactly_one G.message) G
  unfolding content step_said
  last_said e is =
      ap (λ (x : LastTurn). left x.answer G.records x.marks x.inquired x.read.columns x.read.ours x.read.theirs x.out) is
      ∙ last_tie G s t ids hashes counts (read-good G.message s.message-bytes e) (last_is_last G.message t e)
      ∙ ap (λ (m : Option Message). step_said first_eight m G) (sym e)
