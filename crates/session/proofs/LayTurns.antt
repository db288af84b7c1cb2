-- What the two messages of slices do first: a slice that may not come, one that is not placed, and one that is laid. Assumes nothing.
use mathlib.Core.Path.{◌≡◌, ap, ◌∙◌}
use mathlib.Core.Bool.{true, false, false≢true}
use mathlib.Core.List.{List}
use Prim.Native.Nat.{ℕ, ◌≤◌}
use native.Mathlib.Omega.{arith}
use lib.ListN.{length}
use borrow.Author.Tests.{le-leb}
use Rattle.std.proofs.Common.{Option, Some}
use Rattle.bucket.specs.Columns.{Columns}
use Rattle.bucket.proofs.TestLaws.{and_holds}
use Rattle.filter.specs.declared.answers.Refusal.{Refusal}
use Rattle.filter.specs.Answers.{number_of}
use Rattle.filter.proofs.GrantedLaws.{granted_is_ok}
use Rattle.std.specs.Prelude.{Option, None, Result, IsOk}
use Rattle.std.specs.Result.{result_err}
use Rattle.filter.specs.Calls.{has_room}
use Rattle.filter.specs.Steps.{Wide}
use Rattle.filter.proofs.FilledLaws.{wide_of}
use Rattle.message.specs.declared.kinds.Message.{Message}
use Rattle.message.specs.declared.kinds.Message.TheVariants.{Ibf, IbfLast, Inquiry, Offer, Demand, Element, Done}
use Rattle.message.specs.declared.kinds.Slice.{Slice}
use Rattle.message.specs.Laying.{laid, is_slice, slice_end, Lay, lay, lay_as, lay_read, lay_refusal, lay_call}
use Rattle.message.specs.Layout.{Content, IBF, IBF_LAST}
use Rattle.message.specs.Reading.{content}
use Rattle.message.specs.Walking.{exactly_one}
use Rattle.message.proofs.ShapeLaws.{Sliced, shape}
use Rattle.ledger.specs.declared.numbers.Numbers.{Numbers}
use Rattle.ledger.specs.Calls.{answered}
use Rattle.form.specs.Answers.{aborted, admits_slice, is_placed, sliced_numbers}
use Rattle.session.specs.Turns.{slice_turn, slice_turn'}
use Rattle.session.specs.Ready.{Lays}

-- ---- laying

-- room for a filter is room for a part of it
pub less-room : (n m : ℕ) (c : Columns) → n ≤ m → has_room m c ≡ true → has_room n c ≡ true
unfolding has_room
less-room n m c h e =
    let w : Wide m c = wide_of m c e in
    and_holds (le-leb n (length c.idsums) (omega (arith, w.idsums)))
    (and_holds (le-leb n (length c.hashsums) (omega (arith, w.hashsums))) (le-leb n (length c.counts) (omega (arith, w.counts))))

slice-ends : (bs : List ℕ) (m : Message) → exactly_one bs ≡ Some m → is_slice m ≡ true → slice_end m ≤ 4096
slice-ends bs (Ibf t) e h =
    let s : Sliced bs IBF t = shape bs e in
    omega (arith, s.number, s.fit.high, s.fit.below)
slice-ends bs (IbfLast t) e h =
    let s : Sliced bs IBF_LAST t = shape bs e in
    omega (arith, s.number, s.fit.high, s.fit.below)
slice-ends bs (Inquiry salt n) e h = absurd (false≢true h)
slice-ends bs (Offer n) e h = absurd (false≢true h)
slice-ends bs (Demand n) e h = absurd (false≢true h)
slice-ends bs (Element n) e h = absurd (false≢true h)
slice-ends bs Done e h = absurd (false≢true h)

pub lays : (message : List ℕ) (m : Message) (c : Columns) → Lays message m c → lay_call message c ≡ lay None (laid (content m message) c)
unfolding lay_call lay_as lay_refusal
lays message m c l =
    let room : has_room (slice_end m) c ≡ true = less-room (slice_end m) 4096 c (slice-ends message m l.read l.slice) l.room in
    ap (λ (x : Option Message). lay_read x message c) l.read ∙ rw (room, l.slice)

-- a call of it that is given a slice and room
pub laid_by : {message : List ℕ} {m : Message} {c d : Columns} {r : Option Refusal} → Lays message m c → lay r d ≡ lay_call message c → d ≡ laid (content m message) c
laid_by {message} {m} {c} l e = ap (λ (y : Lay). y.columns) (e ∙ lays message m c l)

pub lay_goes : {message : List ℕ} {m : Message} {c d : Columns} (r : Result Unit Refusal) → Lays message m c → lay (result_err r) d ≡ lay_call message c → IsOk r
lay_goes {message} {m} {c} r l e = granted_is_ok r (ap (λ (y : Lay). number_of y.refusal) (e ∙ lays message m c l))

-- ---- a slice that is not the last

module _ (N : Numbers) (m : Content) (t : Slice) (c : Columns) where
  pub slice_untimely : admits_slice N 0 ≡ false → slice_turn' (aborted 5 N) c ≡ slice_turn N m t c
  unfolding slice_turn
  slice_untimely e = rw e

  module _ (e : admits_slice N 0 ≡ true) where
    pub slice_misplaced : is_placed N t.size t.offset t.salt t.width ≡ false → slice_turn' (aborted 4 N) c ≡ slice_turn N m t c
    unfolding slice_turn
    slice_misplaced k = rw (e, k)

    pub slice-laid : is_placed N t.size t.offset t.salt t.width ≡ true
        → slice_turn' (answered 0 0 0 (sliced_numbers N t.size t.salt t.width)) (laid m c) ≡ slice_turn N m t c
    unfolding slice_turn
    slice-laid k = rw (e, k)
