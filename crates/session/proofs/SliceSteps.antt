-- What the ties of both slices share: the grid's entry, the order of slices and what a reading may have against it, and a step that leaves the
-- ledger as it is. Assumes nothing.
use mathlib.Core.Path.{◌≡◌, refl, ap, ap₂, ◌∙◌}
use mathlib.Core.Bool.{Bool, true, false, not, ◌&&◌, ◌||◌, cond}
use mathlib.Core.List.{List, [], ◌∷◌}
use Prim.Native.Nat.{ℕ}
use lib.Dec.{eqb, ltb, leb}
use lib.ListN.{length}
use Rattle.bucket.specs.Digits.{packed}
use Rattle.bucket.specs.Lists.{over}
use Rattle.std.specs.Prelude.{Option, Some}
use Rattle.filter.specs.declared.answers.Refusal.{Refusal}
use Rattle.filter.specs.declared.answers.Refusal.TheVariants.{Malformed, OutOfTurn, FalseReading, Swaps, Limit}
use Rattle.filter.specs.Answers.{number_of, first_of}
use Rattle.filter.specs.Sets.{implies}
use Rattle.filter.specs.Table.{first_eight}
use Rattle.filter.specs.Calls.{Read}
use Rattle.message.specs.Laying.{laid}
use Rattle.message.specs.Layout.{Content, slice}
use Rattle.message.specs.Writing.{layouts}
use Rattle.ledger.specs.declared.numbers.Numbers.{Numbers}
use Rattle.ledger.specs.Grid.{PASSIVE, is_last, entry}
use Rattle.ledger.specs.Session.{Ledger, Session, answer, admitted, placed, is_complete, is_false, reading_at, too_many, tests, refusal}
use Rattle.ledger.specs.Memory.{bit, marks_of, flags_of}
use Rattle.ledger.specs.Calls.{Given, left, numbered, answered, numbers_of, table_of, session_of, went}
use Rattle.form.specs.Answers.{admits_slice, is_placed}
use Rattle.ledger.proofs.GridLaws.{slice-kind}
use Rattle.ledger.proofs.GivenLaws.{same-records, same-marks, same-inquired, same_numbers}
use Rattle.ledger.proofs.Sound.{Sound}
use Rattle.session.proofs.TurnLaws.{session_in, refusal_in, sent_only}

-- ---- the grid, the order, and what a reading may have against it

and_middle : (a b : Bool) → a && true && b ≡ a && b
and_middle true b = refl
and_middle false b = refl

-- the refusal of a reading, where the slice is the last
abbrev pub read_fault : Bool → List ℕ → ℕ → Read → Option Refusal
read_fault last t swaps r =
    first_of (
    (Limit, implies last (not (too_many first_eight t r)))
    ∷ (Swaps, implies last (is_complete r || ltb swaps 16))
    ∷ (FalseReading, implies last (not (is_false r)))
    ∷ [])

module _ (G : Given) (size offset salt width : ℕ) (ids hashes counts : List ℕ) (last : Bool) (e : is_last size offset ≡ last) where
  pub admits_is : admitted (session_in G) (slice size offset salt width ids hashes counts) ≡ admits_slice G.numbers (cond last 1 0)
  unfolding admitted admits_slice session_of
  admits_is =
      ap (λ (b : Bool). entry G.numbers.state (cond b 1 0) && not (eqb G.numbers.state PASSIVE && leb (cond b 1 0) 1 && not (eqb G.numbers.first 1))) e
      ∙ ap (λ (b : Bool). entry G.numbers.state (cond last 1 0) && not (eqb G.numbers.state PASSIVE && b && not (eqb G.numbers.first 1))) (slice-kind last)
      ∙ ap (λ (b : Bool). entry G.numbers.state (cond last 1 0) && not b) (and_middle (eqb G.numbers.state PASSIVE) (not (eqb G.numbers.first 1)))

  abbrev read : Read
  read = reading_at first_eight (table_of G) size salt (laid (slice size offset salt width ids hashes counts) G.columns) G.ours G.theirs

  pub slice-refusal :
      refusal_in G (slice size offset salt width ids hashes counts)
      ≡ number_of (cond (admits_slice G.numbers (cond last 1 0))
      (cond (is_placed G.numbers size offset salt width) (read_fault last (table_of G) G.numbers.swaps read) (Some Malformed)) (Some OutOfTurn))
  unfolding refusal tests placed is_placed session_of
  slice-refusal = λ i.
      number_of (cond (admits_is i) (cond (is_placed G.numbers size offset salt width) (read_fault (e i) (table_of G) G.numbers.swaps read) (Some Malformed)) (Some OutOfTurn))

-- ---- a step that leaves the ledger as it is

module _ (G : Given) (s : Sound G) (u : Session) (same : u.ledger ≡ (session_in G).ledger) where
  pub went-same : u.far ≡ (session_in G).far → (n : ℕ) (cs : List Content)
      → went first_eight n (answer u cs) G
      ≡ left (answered n (length (layouts cs)) 0 (numbers_of u)) G.records G.marks G.inquired u.columns u.ours u.theirs (over 0 (layouts cs) G.out)
  unfolding went
  went-same far n cs = λ i.
      left (answered n (length (layouts cs)) 0 (numbers_of u))
      ((ap₂ (λ (f : ℕ) (L : Ledger). over 262144 (packed 512 (f ∷ [])) (over 0 (packed 512 L.demanded) G.records)) far same ∙ same-records G s) i)
      ((ap (λ (L : Ledger). over 4096 (flags_of first_eight (table_of G) L) (over 0 (marks_of first_eight (table_of G) L) G.marks)) same ∙ same-marks G s) i)
      ((ap (λ (L : Ledger). over 0 L.inquired G.inquired) same ∙ same-inquired G s) i) u.columns u.ours u.theirs
      (sent_only cs G.out i)

  -- the numbers that are the ledger's
  pub numbers-same : numbers_of u ≡ numbered u.state (bit u.first) u.size u.salt u.width u.swaps G.numbers.done G.numbers.demanded G.numbers.inquired
  unfolding numbers_of
  numbers-same = λ i.
      numbered u.state (bit u.first) u.size u.salt u.width u.swaps
      ((ap (λ (L : Ledger). bit L.done_went) same ∙ ap (λ (N : Numbers). N.done) (same_numbers G s)) i)
      ((ap (λ (L : Ledger). length L.demanded) same ∙ ap (λ (N : Numbers). N.demanded) (same_numbers G s)) i)
      ((ap (λ (L : Ledger). length L.inquired) same ∙ ap (λ (N : Numbers). N.inquired) (same_numbers G s)) i)
