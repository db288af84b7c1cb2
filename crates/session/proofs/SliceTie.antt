-- The turn of IBF is the session's step of it. Assumes nothing.
use mathlib.Core.Path.{◌≡◌, refl, sym, ap, ◌∙◌}
use mathlib.Core.Bool.{Bool, true, false, cond}
use mathlib.Core.List.{List, []}
use Prim.Native.Nat.{ℕ}
use Rattle.bucket.proofs.OverLaws.{over-nil}
use Rattle.std.specs.Prelude.{None, Some}
use Rattle.filter.specs.declared.answers.Refusal.TheVariants.{Malformed, OutOfTurn}
use Rattle.filter.specs.Answers.{number_of}
use Rattle.filter.specs.Table.{first_eight}
use Rattle.message.specs.declared.kinds.Slice.{Slice}
use Rattle.message.specs.Laying.{laid}
use Rattle.message.specs.Layout.{Content, slice}
use Rattle.message.specs.Writing.{layouts}
use Rattle.ledger.specs.Grid.{is_last}
use Rattle.ledger.specs.Session.{Outcome, answer, by_slice, act, on_slice, sliced}
use Rattle.ledger.specs.Calls.{Given, left, answered, session_of, went, step_on}
use Rattle.form.specs.Answers.{aborted, admits_slice, is_placed, sliced_numbers}
use Rattle.session.specs.Turns.{slice_turn', slice_turn}
use Rattle.ledger.proofs.CallLaws.{step-acts}
use Rattle.ledger.proofs.Sound.{Sound}
use Rattle.session.proofs.TurnLaws.{session_in, refusal_in, act_in, halted_tie}
use Rattle.session.proofs.SliceSteps.{slice-refusal, went-same, numbers-same}

module _ (G : Given) (s : Sound G) (t : Slice) (ids hashes counts : List ℕ) (e : is_last t.size t.offset ≡ false) where
  abbrev c : Content
  c = slice t.size t.offset t.salt t.width ids hashes counts

  acted : act_in G c ≡ answer (sliced (session_in G) c t.size t.salt t.width) []
  unfolding act by_slice on_slice
  acted = rw e

  goes : went first_eight 0 (act_in G c) G
      ≡ left (answered 0 0 0 (sliced_numbers G.numbers t.size t.salt t.width)) G.records G.marks G.inquired (laid c G.columns) G.ours G.theirs G.out
  unfolding sliced session_of layouts
  goes =
      ap (λ (o : Outcome). went first_eight 0 o G) acted
      ∙ went-same G s (sliced (session_in G) c t.size t.salt t.width) refl refl 0 []
      ∙ (λ i. left (answered 0 0 0 (numbers-same G s (sliced (session_in G) c t.size t.salt t.width) refl i)) G.records G.marks G.inquired
      (laid c G.columns) G.ours G.theirs (over-nil 0 G.out i))

  pub slice_tie : let x = slice_turn G.numbers c t G.columns in
      left x.answer G.records G.marks G.inquired x.columns G.ours G.theirs G.out ≡ step_on first_eight c G
  unfolding slice_turn
  slice_tie =
      go (admits_slice G.numbers 0) (is_placed G.numbers t.size t.offset t.salt t.width) (slice-refusal G t.size t.offset t.salt t.width ids hashes counts false e)
    where
      go : (a p : Bool) → refusal_in G c ≡ number_of (cond a (cond p None (Some Malformed)) (Some OutOfTurn))
          → let x = cond a
          (cond p (slice_turn' (answered 0 0 0 (sliced_numbers G.numbers t.size t.salt t.width)) (laid c G.columns)) (slice_turn' (aborted 4 G.numbers) G.columns))
          (slice_turn' (aborted 5 G.numbers) G.columns) in
          left x.answer G.records G.marks G.inquired x.columns G.ours G.theirs G.out ≡ step_on first_eight c G
      go true true k = sym (step-acts first_eight c G 0 k refl ∙ goes)
      go true false k = halted_tie G s c 4 refl refl k
      go false p k = halted_tie G s c 5 refl refl k
