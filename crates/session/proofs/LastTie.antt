-- The turn of IBF LAST is the session's step of it. Assumes nothing.
use mathlib.Core.Path.{◌≡◌, refl, sym, ap, ap₂, ◌∙◌}
use mathlib.Core.Bool.{Bool, true, false, not, ◌&&◌, ◌||◌, cond, not-not}
use mathlib.Core.List.{List, [], ◌∷◌, ◌++◌}
use Prim.Native.Nat.{ℕ, suc, ◌+◌, ◌≤◌}
use native.Mathlib.Numerals.{add-one}
use native.Mathlib.Omega.{arith}
use lib.Dec.{eqb, ltb, leb}
use lib.ListN.{length, length-append, length-map}
use lib.Seq.{length-take-le}
use Rattle.bucket.specs.Bucket.{𝟎}
use Rattle.bucket.specs.Lists.{over}
use Rattle.std.specs.Prelude.{Option, None, Some}
use Rattle.filter.specs.declared.answers.Refusal.{Refusal}
use Rattle.filter.specs.declared.answers.Refusal.TheVariants.{Malformed, OutOfTurn, FalseReading, Swaps, Limit}
use Rattle.filter.specs.Answers.{number_of, first_of}
use Rattle.filter.specs.Calls.{Read, filled, listed_into}
use Rattle.filter.specs.Table.{first_eight}
use Rattle.message.specs.declared.kinds.Slice.{Slice}
use Rattle.message.specs.Laying.{laid}
use Rattle.message.specs.Layout.{Content, slice, GoodSlice}
use Rattle.message.specs.Writing.{layouts}
use Rattle.filter.specs.Sets.{count}
use Rattle.ledger.specs.Grid.{PASSIVE, is_last}
use Rattle.ledger.specs.Session.{Session, no_ledger, Outcome, next_salt, next_size, own_filter, acts, clears, is_complete, is_false, ours_in, theirs_in, ids_of, reading_at, too_many, refused, by_slice, act, on_slice, decoded, swapped, cleared}
use Rattle.ledger.specs.Calls.{Given, Left, left, numbered, answered, in_state, table_of, session_of, ended, went, step_on}
use Rattle.form.specs.Answers.{aborted, admits_slice, is_placed}
use Rattle.session.specs.Turns.{fate_of, open_turn, swapped_numbers, LastTurn, last_turn', untouched, wiped, kept, read_turn, last_turn}
use Rattle.filter.proofs.ListLaws.{distinct_append, count-distinct}
use Rattle.ledger.proofs.BookLaws.{Table, table-ids}
use Rattle.ledger.proofs.GridLaws.{slice-kind, slice-idle}
use Rattle.ledger.proofs.FaultLaws.{ranges}
use Rattle.ledger.proofs.CallLaws.{leb_not_ltb, step-acts, step-ends}
use Rattle.ledger.proofs.Theorems.{refusal-cleared}
use Rattle.ledger.proofs.ReadingLaws.{ReadLaw, read-law, complete-clean}
use Rattle.session.proofs.OpensLaws.{Listing, listing}
use Rattle.ledger.proofs.GivenLaws.{given-good, given-form}
use Rattle.ledger.proofs.Sound.{Sound}
use Rattle.session.proofs.TurnLaws.{session_in, refusal_in, act_in, stops, halted_tie}
use Rattle.session.proofs.SliceSteps.{admits_is, read_fault, slice-refusal, went-same, numbers-same}
use Rattle.session.proofs.OpenTie.{open_tie}

-- ---- the fate of a reading

-- what is known of a reading
record Known (t : List ℕ) (size : ℕ) (r : Read) : Type 0 where
  law : is_complete r ≡ true → ReadLaw (ids_of first_eight t) r
  clean : is_complete r ≡ true → r.answer.refusal ≡ 0
  lists : Listing size r

module _ (t : List ℕ) (table : Table first_eight t) (size swaps : ℕ) (r : Read) (k : Known t size r) where
  theirs-count : length (theirs_in r) ≡ r.answer.theirs
  theirs-count = length-take-le r.answer.theirs r.theirs k.lists.theirs-there

  held-count : is_complete r ≡ true → count (ids_of first_eight t ++ theirs_in r) ≡ length t + r.answer.theirs
  unfolding ids_of
  held-count e =
      count-distinct (ids_of first_eight t ++ theirs_in r)
      (distinct_append (ids_of first_eight t) (theirs_in r) (table-ids first_eight t table) (k.law e).theirs_once (k.law e).theirs_new)
      ∙ length-append (ids_of first_eight t) (theirs_in r)
      ∙ ap₂ ◌+◌ (length-map t first_eight) theirs-count

  fate_is : number_of (read_fault true t swaps r) ≡ fate_of r.answer (length t) swaps
  unfolding fate_of too_many
  fate_is = go (is_complete r) refl
    where
      refused_if : (b : Bool) (x y : Option Refusal) → number_of (cond (not b) x y) ≡ cond b (number_of y) (number_of x)
      refused_if true x y = refl
      refused_if false x y = refl

      falsely : Option Refusal
      falsely = first_of ((FalseReading, not (is_false r)) ∷ [])

      go : (b : Bool) → is_complete r ≡ b
          → number_of (first_of ((Limit, not (b && ltb 4096 (count (ids_of first_eight t ++ theirs_in r)))) ∷ (Swaps, b || ltb swaps 16) ∷ (FalseReading, not (is_false r)) ∷ []))
          ≡ cond b (cond (ltb 4096 (length t + r.answer.theirs)) 10 0) (cond (leb 16 swaps) 9 r.answer.refusal)
      go true e =
          (λ i. number_of (cond (not (ltb 4096 (held-count e i))) (first_of ((FalseReading, not (eqb (k.clean e i) 6)) ∷ [])) (Some Limit)))
          ∙ refused_if (ltb 4096 (length t + r.answer.theirs)) None (Some Limit)
      go false e =
          ap (λ (b : Bool). number_of (cond b falsely (Some Swaps))) (sym (not-not (ltb swaps 16)) ∙ ap not (sym (leb_not_ltb 16 swaps)))
          ∙ refused_if (leb 16 swaps) falsely (Some Swaps)
          ∙ ap (cond (leb 16 swaps) 9) (refused_if (is_false r) None (Some FalseReading) ∙ k.lists.refuses)

-- ---- what follows a reading

module _ (G : Given) (s : Sound G) (empty : (session_in G).ledger ≡ no_ledger) (c : Content) (size salt : ℕ) (small : size ≤ 4096)
    (r : Read) (k : Known (table_of G) size r)
    (acted : act_in G c
    ≡ cond (is_complete r) (decoded first_eight (table_of G) (session_in G) r size salt) (swapped first_eight (table_of G) (session_in G) r size salt))
    (zeroes : (n : ℕ) → clears n ≡ true → refused first_eight (table_of G) n (session_in G) c ≡ cleared first_eight (table_of G) (session_in G) r size) where
  abbrev leaves : LastTurn → Left
  leaves x = left x.answer G.records x.marks x.inquired x.read.columns x.read.ours x.read.theirs x.out

  -- 9 and 10
  abbrev wipes : ℕ → LastTurn
  wipes n = last_turn' (aborted n G.numbers) G.marks G.inquired (wiped size r) G.out

  wipes_tie : (n : ℕ) → acts n ≡ false → clears n ≡ true → refusal_in G c ≡ n → leaves (wipes n) ≡ step_on first_eight c G
  unfolding cleared
  wipes_tie n stays is e =
      sym (step-ends first_eight c G n e stays
      ∙ ap (λ (u : Session). ended n u G) (zeroes n is)
      ∙ (λ i. left (answered n 0 0 (in_state (stops G s i) G.numbers)) G.records G.marks G.inquired
      (filled size (λ j. 𝟎) r.columns) (listed_into size [] r.ours) (listed_into size [] r.theirs) G.out))

  -- complete
  abbrev opens : LastTurn
  opens =
      let o = open_turn G.numbers G.table size salt (ours_in r) (theirs_in r) G.marks G.inquired G.out in
      last_turn' o.answer o.marks o.inquired (kept r) o.out

  opens_tie : is_complete r ≡ true → refusal_in G c ≡ 0 → leaves opens ≡ step_on first_eight c G
  opens_tie b e =
      open_tie G s empty r (k.law b).ours_held (k.law b).theirs_once
      (omega (arith, small, k.lists.theirs-few, theirs-count (table_of G) (given-good G s) size G.numbers.swaps r k)) size salt
      ∙ ap (λ (o : Outcome). went first_eight 0 o G)
      (sym (acted ∙ ap (λ (x : Bool). cond x (decoded first_eight (table_of G) (session_in G) r size salt) (swapped first_eight (table_of G) (session_in G) r size salt)) b))
      ∙ sym (step-acts first_eight c G 0 e refl)

  -- stuck or false
  abbrev swaps : ℕ → LastTurn
  swaps n =
      let cs = own_filter (Rattle.filter.specs.Table.ids_of first_eight G.table) (next_size size) (next_salt salt) in
      last_turn' (answered n (length (layouts cs)) 0 (swapped_numbers G.numbers size salt)) G.marks G.inquired (kept r) (over 0 (layouts cs) G.out)

  swaps_tie : (n : ℕ) → acts n ≡ true → is_complete r ≡ false → refusal_in G c ≡ n → leaves (swaps n) ≡ step_on first_eight c G
  unfolding swapped session_of ids_of Rattle.filter.specs.Table.ids_of
  swaps_tie n does b e =
      sym (step-acts first_eight c G n e does
      ∙ ap (λ (o : Outcome). went first_eight n o G)
      (acted ∙ ap (λ (x : Bool). cond x (decoded first_eight (table_of G) (session_in G) r size salt) (swapped first_eight (table_of G) (session_in G) r size salt)) b)
      ∙ went-same G s u refl refl n cs
      ∙ (λ i. left (answered n (length (layouts cs)) 0 ((numbers-same G s u refl ∙ more) i)) G.records G.marks G.inquired
      r.columns r.ours r.theirs (over 0 (layouts cs) G.out)))
    where
      u : Session
      u = (swapped first_eight (table_of G) (session_in G) r size salt).session

      cs : List Content
      cs = (swapped first_eight (table_of G) (session_in G) r size salt).sent

      more : numbered PASSIVE 1 (next_size size) (next_salt salt) 0 (suc G.numbers.swaps) G.numbers.done G.numbers.demanded G.numbers.inquired
          ≡ swapped_numbers G.numbers size salt
      more =
          ap (λ (m : ℕ). numbered PASSIVE 1 (next_size size) (next_salt salt) 0 m G.numbers.done G.numbers.demanded G.numbers.inquired)
          (sym (add-one G.numbers.swaps))

  -- each way
  abbrev turn_by : Bool → ℕ → LastTurn
  turn_by b f = cond (clears f) (wipes f) (cond b opens (swaps f))

  read_tie : refusal_in G c ≡ number_of (read_fault true (table_of G) G.numbers.swaps r)
      → leaves (read_turn G.numbers G.table size salt r G.marks G.inquired G.out) ≡ step_on first_eight c G
  unfolding read_turn fate_of
  read_tie e =
      go (is_complete r) refl (ltb 4096 (length (table_of G) + r.answer.theirs)) (leb 16 G.numbers.swaps)
      (e ∙ fate_is (table_of G) (given-good G s) size G.numbers.swaps r k)
    where
      turned : (b : Bool) → is_complete r ≡ false → r.answer.refusal ≡ cond b 6 0 → refusal_in G c ≡ r.answer.refusal
          → leaves (turn_by false r.answer.refusal) ≡ step_on first_eight c G
      turned true q x f = ap (λ (n : ℕ). leaves (turn_by false n)) x ∙ swaps_tie 6 refl q (f ∙ x)
      turned false q x f = ap (λ (n : ℕ). leaves (turn_by false n)) x ∙ swaps_tie 0 refl q (f ∙ x)

      go : (b : Bool) → is_complete r ≡ b → (many full : Bool) → refusal_in G c ≡ cond b (cond many 10 0) (cond full 9 r.answer.refusal)
          → leaves (turn_by b (cond b (cond many 10 0) (cond full 9 r.answer.refusal))) ≡ step_on first_eight c G
      go true q true full f = wipes_tie 10 refl refl f
      go true q false full f = opens_tie q f
      go false q many true f = wipes_tie 9 refl refl f
      go false q many false f = turned (is_false r) q (sym k.lists.refuses) f

-- ---- IBF LAST

module _ (G : Given) (s : Sound G) (t : Slice) (ids hashes counts : List ℕ) (good : GoodSlice t.size t.offset t.salt t.width ids hashes counts)
    (e : is_last t.size t.offset ≡ true) where
  abbrev c : Content
  c = slice t.size t.offset t.salt t.width ids hashes counts

  abbrev read : Read
  read = reading_at first_eight (table_of G) t.size t.salt (laid c G.columns) G.ours G.theirs

  reads : Known (table_of G) t.size read
  reads = record {
    law = read-law first_eight (table_of G) t.size t.salt (laid c G.columns) G.ours G.theirs;
    clean = complete-clean first_eight (table_of G) t.size t.salt (laid c G.columns) G.ours G.theirs;
    lists = listing first_eight (table_of G) t.size t.salt (laid c G.columns) G.ours G.theirs;
  }

  -- nothing has come where a slice is admitted
  idles : admits_slice G.numbers 1 ≡ true → (session_in G).ledger ≡ no_ledger
  idles a =
      (given-form G s).empty
      (slice-idle (session_in G) c (slice-kind (is_last t.size t.offset)) (admits_is G t.size t.offset t.salt t.width ids hashes counts true e ∙ a))

  acted : act_in G c
      ≡ cond (is_complete read) (decoded first_eight (table_of G) (session_in G) read t.size t.salt) (swapped first_eight (table_of G) (session_in G) read t.size t.salt)
  unfolding act by_slice on_slice session_of
  acted = rw e

  zeroes : (n : ℕ) → clears n ≡ true → refused first_eight (table_of G) n (session_in G) c ≡ cleared first_eight (table_of G) (session_in G) read t.size
  unfolding session_of
  zeroes n = refusal-cleared first_eight (table_of G) n (session_in G) t.size t.offset t.salt t.width ids hashes counts

  pub last_tie : let x = last_turn G.numbers G.table c t G.columns G.ours G.theirs G.marks G.inquired G.out in
      left x.answer G.records x.marks x.inquired x.read.columns x.read.ours x.read.theirs x.out ≡ step_on first_eight c G
  unfolding last_turn
  last_tie =
      go (admits_slice G.numbers 1) refl (is_placed G.numbers t.size t.offset t.salt t.width) (slice-refusal G t.size t.offset t.salt t.width ids hashes counts true e)
    where
      go : (a : Bool) → admits_slice G.numbers 1 ≡ a → (p : Bool)
          → refusal_in G c ≡ number_of (cond a (cond p (read_fault true (table_of G) G.numbers.swaps read) (Some Malformed)) (Some OutOfTurn))
          → let x = cond a
          (cond p (read_turn G.numbers G.table t.size t.salt read G.marks G.inquired G.out)
          (last_turn' (aborted 4 G.numbers) G.marks G.inquired (untouched G.columns G.ours G.theirs) G.out))
          (last_turn' (aborted 5 G.numbers) G.marks G.inquired (untouched G.columns G.ours G.theirs) G.out) in
          left x.answer G.records x.marks x.inquired x.read.columns x.read.ours x.read.theirs x.out ≡ step_on first_eight c G
      go true q true f = read_tie G s (idles q) c t.size t.salt (ranges t.size t.offset t.salt t.width good.ranges).high read reads acted zeroes f
      go true q false f = halted_tie G s c 4 refl refl f
      go false q p f = halted_tie G s c 5 refl refl f
