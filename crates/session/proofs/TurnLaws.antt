-- What every message's tie starts from and ends with: what a sound step is given, a refusal, and a change laid in memory. Assumes nothing.
--
--   given_ordered     what is given can be searched
--   front-marks ..    walks run on the first 8,192 marks, which are then laid over all
--   check-given       the checksum of what is held, by the memory
--   halted_tie        refused: nothing is changed but the state
--   change_tie        acted on: the change of a message that is no slice, laid in memory
use mathlib.Core.Path.{◌≡◌, refl, sym, ap, ◌∙◌}
use mathlib.Core.Bool.{Bool, false, ◌&&◌, cond}
use mathlib.Core.List.{List, [], ◌∷◌, ◌++◌, map, append-nil}
use Prim.Native.Nat.{ℕ, ◌*◌, ◌≤◌}
use native.Mathlib.Omega.{arith}
use lib.Dec.{eqb}
use lib.ListN.{length, take}
use lib.Seq.{length-take-le}
use borrow.Author.Tests.{ne_eqb}
use Rattle.bucket.specs.Digits.{packed}
use Rattle.bucket.specs.Lists.{over, part}
use Rattle.bucket.proofs.OverLaws.{over-nil}
use Rattle.filter.specs.Table.{first_eight}
use Rattle.filter.proofs.SetLaws.{clash, asc_of}
use Rattle.filter.proofs.TableLaws.{ids-ascending}
use Rattle.message.specs.Layout.{Content}
use Rattle.message.specs.Writing.{layouts}
use Rattle.message.proofs.WholeLaws.{packed-nil}
use Rattle.ledger.specs.declared.numbers.Numbers.{Numbers}
use Rattle.ledger.specs.declared.numbers.Answer.{Answer}
use Rattle.ledger.specs.Grid.{FINISHED, ABORTED, is_ended}
use Rattle.ledger.specs.Session.{Ledger, Session, Outcome, Change, is_slice, changed, acts, clears, stopped, checksum, refusal, change, act}
use Rattle.ledger.specs.Memory.{bit, decode}
use Rattle.ledger.specs.Calls.{Given, Left, left, numbered, answered, in_state, numbers_of, memory_of, table_of, hash_given, session_of, ended, went, step_on}
use Rattle.ledger.proofs.CallLaws.{act-change, refused-halted, step-acts, step-ends}
use Rattle.ledger.proofs.LaidLaws.{laid_marks, laid-front, laid-back}
use Rattle.session.specs.Moves.{check_of}
use Rattle.form.specs.Answers.{aborted}
use Rattle.form.specs.Answers as form
use Rattle.session.proofs.CheckLaws.{check-decoded}
use Rattle.session.proofs.StoreLaws.{known_in}
use Rattle.session.proofs.PlaceTie.{Ordered}
use Rattle.ledger.proofs.Sound.{Sound}
use Rattle.ledger.proofs.GivenLaws.{given-table, given-known, given-books, given-asc, given-count, given-few, given-rooms, given-demanded, same-marks, same-inquired, same_numbers}

-- what a step is given: its session and ledger, and the hashes demanded
abbrev pub session_in : Given → Session
session_in G = session_of first_eight G

abbrev pub ledger_in : Given → Ledger
ledger_in G = (session_in G).ledger

abbrev pub demanded_in : Given → List ℕ
demanded_in G = known_in G.numbers.demanded G.records

-- what a step leaves that changes records, marks and the outgoing buffer at most
abbrev pub leaves : Given → Answer → List ℕ → List ℕ → List ℕ → Left
leaves G a R M out = left a R M G.inquired G.columns G.ours G.theirs out

abbrev pub refusal_in : Given → Content → ℕ
refusal_in G c = refusal first_eight (table_of G) (hash_given G) (session_in G) c

abbrev pub change_in : Given → Content → Change
change_in G c = change first_eight (table_of G) (hash_given G) (session_in G) c

abbrev pub act_in : Given → Content → Outcome
act_in G c = act first_eight (table_of G) (hash_given G) (session_in G) c

-- no elements are due, and nothing is sent
pub sent_only : (cs : List Content) (out : List ℕ) → over 0 (layouts cs ++ packed 512 []) out ≡ over 0 (layouts cs) out
sent_only cs out = ap (λ (l : List ℕ). over 0 l out) (ap (λ (l : List ℕ). layouts cs ++ l) (packed-nil 64) ∙ append-nil (layouts cs))

pub nothing-sent : (out : List ℕ) → over 0 (layouts [] ++ packed 512 []) out ≡ out
unfolding layouts
nothing-sent out = sent_only [] out ∙ over-nil 0 out

-- ---- what is given

module _ (G : Given) (s : Sound G) where
  pub given_ordered : Ordered first_eight (table_of G) (ledger_in G)
  unfolding Rattle.filter.specs.Table.ids_of
  given_ordered = record {
    books = given-books G s;
    asc = given-asc G s;
    ids = asc_of (map first_eight (table_of G)) (ids-ascending G.table (given-table G s));
    known_ids = rw (given-demanded G s) (asc_of (map first_eight (demanded_in G)) (ids-ascending (take (64 * G.numbers.demanded) G.records) (given-known G s)));
    few = (given-few G s).2;
    known_few = rw (given-demanded G s) (omega (arith, given-count G s, given-few G s));
  }

  pub check-given : checksum first_eight (table_of G) (ledger_in G) ≡ check_of (table_of G) (demanded_in G) (part 4096 (length (demanded_in G)) G.marks)
  unfolding session_of memory_of decode
  check-given =
      check-decoded first_eight (table_of G) (memory_of G) (eqb G.numbers.done 1) (given-books G s).demanded_asc (given-books G s).demanded_new
      ∙ ap (λ (n : ℕ). check_of (table_of G) (demanded_in G) (part 4096 n G.marks)) (sym (given-count G s))

  pub given-done : bit (ledger_in G).done_went ≡ G.numbers.done
  unfolding numbers_of
  given-done = ap (λ (N : Numbers). N.done) (same_numbers G s)

  pub given-long : length (ledger_in G).demanded ≡ G.numbers.demanded
  unfolding numbers_of
  given-long = ap (λ (N : Numbers). N.demanded) (same_numbers G s)

  -- the places of marks that a session has
  pub front-room : 8192 ≤ length (take 8192 G.marks)
  front-room = omega (arith, length-take-le 8192 G.marks (given-rooms G s).1)

  pub front-marks : laid_marks first_eight (table_of G) (ledger_in G) (take 8192 G.marks) ≡ take 8192 G.marks
  front-marks =
      laid-front first_eight (table_of G) (ledger_in G) G.marks given_ordered.few given_ordered.known_few (given-rooms G s).1 (same-marks G s)

  pub marks-back : (K : Ledger) → K.demanded ≡ (ledger_in G).demanded
      → over 0 (laid_marks first_eight (table_of G) K (take 8192 G.marks)) G.marks ≡ laid_marks first_eight (table_of G) K G.marks
  marks-back K demanded =
      laid-back first_eight (table_of G) K G.marks given_ordered.few (rw demanded given_ordered.known_few) (given-rooms G s).1

  -- ---- refused

  pub stops : stopped (session_in G).state ≡ ABORTED
  unfolding session_of
  stops = ap (λ (b : Bool). cond b FINISHED ABORTED) (ne_eqb G.numbers.state FINISHED (λ e. clash (ap is_ended e) s.going))

-- 9 and 10 clear what a slice was read into; every other refusal changes the state alone
pub halted_tie : (G : Given) (s : Sound G) (c : Content) (n : ℕ) → acts n ≡ false → clears n && is_slice c ≡ false → refusal_in G c ≡ n
    → leaves G (aborted n G.numbers) G.records G.marks G.out ≡ step_on first_eight c G
unfolding session_of
halted_tie G s c n off other e =
    sym (step-ends first_eight c G n e off
    ∙ ap (λ (u : Session). ended n u G) (refused-halted first_eight (table_of G) n (session_in G) c other)
    ∙ ap (λ (q : ℕ). leaves G (answered n 0 0 (in_state q G.numbers)) G.records G.marks G.out) (stops G s))

-- ---- acted on

-- a change laid in memory: whether DONE went and how many hashes are demanded, as numbers; records, marks and the outgoing buffer
pub record Laid (G : Given) (ch : Change) (done demanded : ℕ) (R M O : List ℕ) : Type 0 where
  pub inquired : ch.ledger.inquired ≡ (ledger_in G).inquired
  pub went : bit ch.ledger.done_went ≡ done
  pub count : length ch.ledger.demanded ≡ demanded
  pub records : over 262144 (packed 512 (ch.far ∷ [])) (over 0 (packed 512 ch.ledger.demanded) G.records) ≡ R
  pub marks : laid_marks first_eight (table_of G) ch.ledger G.marks ≡ M
  pub out : over 0 (layouts ch.sent ++ packed 512 ch.due) G.out ≡ O

module _ (G : Given) (s : Sound G) (c : Content) (other : is_slice c ≡ false) where
  pub change_tie : (ch : Change) (done demanded : ℕ) (R M O : List ℕ) → Laid G ch done demanded R M O → refusal_in G c ≡ 0 → change_in G c ≡ ch
      → leaves G (form.changed G.numbers ch.state done demanded (length (layouts ch.sent)) (length ch.due)) R M O ≡ step_on first_eight c G
  unfolding went numbers_of session_of
  change_tie ch done demanded R M O l none is =
      let N = G.numbers in
      sym (step-acts first_eight c G 0 none refl
      ∙ ap (λ (o : Outcome). went first_eight 0 o G) (act-change first_eight (table_of G) (hash_given G) (session_in G) c other ∙ ap (changed (session_in G)) is)
      ∙ (λ i.
      left
      (answered 0 (length (layouts ch.sent)) (length ch.due)
      (numbered ch.state 0 N.size N.salt N.width N.swaps (l.went i) (l.count i) ((ap length l.inquired ∙ ap (λ (N : Numbers). N.inquired) (same_numbers G s)) i)))
      (l.records i) (l.marks i) ((ap (λ (xs : List ℕ). over 0 xs G.inquired) l.inquired ∙ same-inquired G s) i)
      G.columns G.ours G.theirs (l.out i)))
