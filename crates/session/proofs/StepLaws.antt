-- The ways of a step: what is refused before the message is read, and that behind that everything is in its form. Assumes nothing.
use mathlib.Core.Path.{◌≡◌, refl, sym, ap, ◌∙◌}
use mathlib.Core.Bool.{Bool, false, not}
use mathlib.Core.List.{List, [], ◌∷◌}
use Prim.Native.Nat.{ℕ}
use lib.Dec.{eqb}
use lib.ListN.{length}
use borrow.Author.Tests.{not-true}
use Rattle.std.specs.Option.{is_some}
use Rattle.bucket.specs.Digits.{Below}
use Rattle.filter.specs.declared.answers.Refusal.{Refusal}
use Rattle.filter.specs.declared.answers.Refusal.TheVariants.{Form, Room, Range, Malformed, OutOfTurn, FalseReading, Breach, Checksum, Swaps, Limit}
use Rattle.filter.specs.Answers.{refusal_number, number_of, first_of}
use Rattle.filter.specs.Calls.{has_room}
use Rattle.filter.specs.Table.{first_eight}
use Rattle.message.specs.Walking.{exactly_one}
use Rattle.ledger.specs.Grid.{is_ended}
use Rattle.ledger.specs.Session.{acts}
use Rattle.ledger.specs.Calls.{Given, left, answered, good_form, has_ledger_room, has_rooms, early, step_said, step_call}
use Rattle.ledger.proofs.FaultLaws.{Passed, passes}
use Rattle.ledger.proofs.Sound.{Sound}
use Rattle.form.specs.Answers.{rooms_of, early_of}
use Rattle.form.proofs.JudgedLaws.{judged_in, judged-form, judged_tally}
use Rattle.form.proofs.TallyLaws.{tally_given}

-- the definition's tests, in order
abbrev in_order : Given → List (Refusal × Bool)
in_order G = (Form, good_form first_eight G) ∷ (Room, has_rooms G) ∷ (OutOfTurn, not (is_ended G.numbers.state)) ∷ []

-- a refusal's number is none's
pub refused_so : (why : Refusal) → eqb (refusal_number why) 0 ≡ false
refused_so Form = refl
refused_so Room = refl
refused_so Range = refl
refused_so Malformed = refl
refused_so OutOfTurn = refl
refused_so FalseReading = refl
refused_so Breach = refl
refused_so Checksum = refl
refused_so Swaps = refl
refused_so Limit = refl

module _ (G : Given) where
  -- the refusal, by the tests as the code makes them
  abbrev pub early_in : ℕ
  early_in =
      early_of (is_some (judged_in G))
      (rooms_of (length G.records) (length G.marks) (length G.inquired)
      (length G.columns.idsums) (length G.columns.hashsums) (length G.columns.counts)
      (length G.ours) (length G.theirs) (length G.hash) (length G.out))
      G.numbers.state

  early_tie : early_in ≡ number_of (early first_eight G)
  unfolding early_of early has_rooms has_ledger_room rooms_of has_room
  early_tie =
      ap (λ (b : Bool). number_of (first_of ((Form, b) ∷ (Room, has_rooms G) ∷ (OutOfTurn, not (is_ended G.numbers.state)) ∷ []))) (judged-form G)

  -- nothing is changed
  pub early-refused : {n : ℕ} → n ≡ early_in → eqb n 0 ≡ false
      → left (answered n 0 0 G.numbers) G.records G.marks G.inquired G.columns G.ours G.theirs G.out ≡ step_call first_eight G
  unfolding step_call
  early-refused e off = rw (sym (e ∙ early_tie), off)

  module _ (none : early_in ≡ 0) where
    behind : Passed (in_order G)
    unfolding early
    behind = passes (in_order G) (ap acts (sym early_tie ∙ none))

    pub tally_sound : judged_in G ≡ tally_given G
    tally_sound = judged_tally G behind.0

    pub said : step_said first_eight (exactly_one G.message) G ≡ step_call first_eight G
    unfolding step_call
    said = rw (sym early_tie ∙ none)

    pub sound : Below 8 G.records → Below 8 G.marks → Below 8 G.message → Sound G
    sound a b c = record {
      form = behind.0;
      rooms = behind.1.0;
      going = not-true (is_ended G.numbers.state) behind.1.1.0;
      records-bytes = a;
      marks-bytes = b;
      message-bytes = c;
    }
