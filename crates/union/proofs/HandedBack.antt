-- What a caller hands back is the session: the memory and the numbers that a call leaves say exactly the session that the definition made.
--
--   back G l hash bs out   what a caller gives to the next call: the same table, what the last one left, and the next message with its hash and buffer
--   Roomy G s              the room that a session takes in what was given
--   handed_back            of a message that is acted on, the session that is handed back is the outcome's
--   ended-back             of a refusal likewise
--
-- Assumes nothing.
use mathlib.Core.Path.{◌≡◌, refl, sym, ap, ap₂, ◌∙◌, subst}
use mathlib.Core.Bool.{Bool, true, false}
use mathlib.Core.Logic.{◌⊎◌, inl, inr}
use mathlib.Core.List.{List, [], ◌∷◌}
use Prim.Native.Nat.{ℕ, ◌*◌, ◌^◌, ◌≤◌, ◌<◌}
use native.Mathlib.Omega.{arith}
use lib.Dec.{eqb}
use lib.ListN.{length, take, get_or, length-map}
use lib.Seq.{take-take, take_all}
use Rattle.bucket.specs.Digits.{joined, packed}
use Rattle.bucket.specs.Lists.{elem, over, part}
use Rattle.bucket.proofs.OverLaws.{over-length, over-take, part-over}
use Rattle.filter.specs.Table.{hashes_of}
use Rattle.filter.proofs.TableLaws.{hash_at_lem}
use Rattle.message.proofs.WholeLaws.{whole_length}
use Rattle.ledger.specs.Session.{Ledger, Session, Outcome}
use Rattle.ledger.specs.Memory.{bit, Memory, decode, encode, mark_of, flag_of, marks_of, flags_of}
use Rattle.ledger.specs.Calls.{Given, Left, given, numbers_of, table_of, memory_of, session_of, ended, went}
use Rattle.filter.proofs.SetLaws.{in_cons, not_in_nil}
use Rattle.ledger.proofs.BookLaws.{Books}
use Rattle.ledger.proofs.FaultLaws.{Ended}
use Rattle.ledger.proofs.MemoryLaws.{decode-encode}
use Rattle.ledger.proofs.BelowLaws.{Fit, hashes-back}

is_bit : (b : Bool) → eqb (bit b) 1 ≡ b
is_bit true = refl
is_bit false = refl

front-again : (xs l : List ℕ) → length xs ≤ length l → take (length xs) (over 0 xs l) ≡ xs
front-again xs l h = part-over 0 l xs (omega arith)

-- one number written is read again
one_again : (x : ℕ) → x < 2 ^ 512 → joined 8 (packed 512 (x ∷ [])) ≡ x
one_again x h =
    ap (joined 8) (sym (take_all 64 (packed 512 (x ∷ [])) (omega (arith, long))))
    ∙ sym (hash_at_lem (packed 512 (x ∷ [])) 0 (omega (arith, long)))
    ∙ ap (λ (l : List ℕ). get_or l 0 0) (hashes-back (x ∷ []) fit)
  where
    long : length (packed 512 (x ∷ [])) ≡ 64 * 1
    long = whole_length 64 (x ∷ [])

    fit : Fit 512 (x ∷ [])
    fit y e = go (in_cons y x [] e)
      where
        go : (y ≡ x) ⊎ (elem y [] ≡ true) → y < 2 ^ 512
        go (inl p) = subst (λ (z : ℕ). z < 2 ^ 512) (sym p) h
        go (inr p) = absurd (not_in_nil y p)

-- what stands before a position, and what was laid there
before-again : (k at : ℕ) (xs ys l : List ℕ) → length ys ≤ length l → k ≡ length ys → k ≤ at → at ≤ length l → take k (over at xs (over 0 ys l)) ≡ ys
before-again k at xs ys l h e m r =
    let long : length (over 0 ys l) ≡ length l = over-length 0 l ys (omega arith) in
    sym (take-take k at (over at xs (over 0 ys l)) m)
    ∙ ap (take k) (over-take at (over 0 ys l) xs (omega (arith, long)))
    ∙ take-take k at (over 0 ys l) m
    ∙ ap (λ (j : ℕ). take j (over 0 ys l)) e
    ∙ front-again ys l h

there-again : (k at : ℕ) (xs ys l : List ℕ) → length ys ≤ length l → k ≡ length xs → at ≤ length l → part at k (over at xs (over 0 ys l)) ≡ xs
there-again k at xs ys l h e r =
    let long : length (over 0 ys l) ≡ length l = over-length 0 l ys (omega arith) in
    ap (λ (j : ℕ). part at j (over at xs (over 0 ys l))) e ∙ part-over at (over 0 ys l) xs (omega (arith, long))

abbrev pub back : Given → Left → (hash bs out : List ℕ) → Given
back G l hash bs out = given l.answer.next G.table l.records l.marks l.inquired l.columns l.ours l.theirs hash bs out

-- the room that a ledger takes
pub record Roomy (G : Given) (s : Session) : Type 0 where
  pub table : length (table_of G) ≤ 4096
  pub demanded : length s.ledger.demanded ≤ 4096
  pub inquired : length s.ledger.inquired ≤ 4096
  pub records-room : 262208 ≤ length G.records
  pub marks-room : 8192 ≤ length G.marks
  pub inquired-room : 4096 ≤ length G.inquired
  pub far : s.far < 2 ^ 512
  pub hashes : Fit 512 s.ledger.demanded

module _ (derive : ℕ → ℕ) (n : ℕ) (o : Outcome) (G : Given) (hash bs out : List ℕ) (w : Roomy G o.session) where
  abbrev s : Session
  s = o.session

  abbrev L : Ledger
  L = s.ledger

  abbrev t : List ℕ
  t = table_of G

  abbrev again : Given
  again = back G (went derive n o G) hash bs out

  -- the demands and the far checksum behind them, in records
  demands-long : length (packed 512 L.demanded) ≡ 64 * length L.demanded
  demands-long = whole_length 64 L.demanded

  demands-there : length (packed 512 L.demanded) ≤ length G.records
  demands-there = omega (arith, demands-long, w.demanded, w.records-room)

  abbrev recorded : List ℕ
  recorded = over 262144 (packed 512 (s.far ∷ [])) (over 0 (packed 512 L.demanded) G.records)

  far-again : joined 8 (part 262144 64 recorded) ≡ s.far
  far-again =
      ap (joined 8)
      (there-again 64 262144 (packed 512 (s.far ∷ [])) (packed 512 L.demanded) G.records demands-there (sym (whole_length 64 (s.far ∷ [])))
      (omega (arith, w.records-room)))
      ∙ one_again s.far w.far

  records-again : hashes_of (take (64 * length L.demanded) recorded) ≡ L.demanded
  records-again =
      ap hashes_of
      (before-again (64 * length L.demanded) 262144 (packed 512 (s.far ∷ [])) (packed 512 L.demanded) G.records demands-there (sym demands-long)
      (omega (arith, w.demanded)) (omega (arith, w.records-room)))
      ∙ hashes-back L.demanded w.hashes

  -- the marks of the table and of the demands
  marks-long : length (marks_of derive t L) ≡ length t
  marks-long = length-map t (mark_of derive t L)

  flags_long : length (flags_of derive t L) ≡ length L.demanded
  flags_long = length-map L.demanded (flag_of derive t L)

  marks-there : length (marks_of derive t L) ≤ length G.marks
  marks-there = omega (arith, marks-long, w.table, w.marks-room)

  abbrev marked : List ℕ
  marked = over 4096 (flags_of derive t L) (over 0 (marks_of derive t L) G.marks)

  flags-again : part 4096 (length L.demanded) marked ≡ flags_of derive t L
  flags-again =
      there-again (length L.demanded) 4096 (flags_of derive t L) (marks_of derive t L) G.marks marks-there (sym flags_long)
      (omega (arith, w.marks-room))

  marks-again : take (length t) marked ≡ marks_of derive t L
  marks-again =
      before-again (length t) 4096 (flags_of derive t L) (marks_of derive t L) G.marks marks-there (sym marks-long) w.table
      (omega (arith, w.marks-room))

  inquired-again : take (length L.inquired) (over 0 L.inquired G.inquired) ≡ L.inquired
  inquired-again = front-again L.inquired G.inquired (omega (arith, w.inquired, w.inquired-room))

  pub memory_again : memory_of again ≡ encode derive t L
  unfolding memory_of went numbers_of encode
  memory_again = λ i. record { records = records-again i; flags = flags-again i; marks = marks-again i; inquired = inquired-again i }

  pub handed_back : Books derive t L → session_of derive again ≡ s
  unfolding session_of went numbers_of
  handed_back b = λ i. record {
    state = s.state;
    first = is_bit s.first i;
    size = s.size;
    salt = s.salt;
    width = s.width;
    swaps = s.swaps;
    far = far-again i;
    columns = s.columns;
    ours = s.ours;
    theirs = s.theirs;
    ledger = (ap₂ (λ (M : Memory) (d : Bool). decode derive t M d) memory_again (is_bit L.done_went) ∙ decode-encode derive t L b) i;
  }

-- a refusal leaves the ledger, so what is read of it is what was read
pub ended-back : (derive : ℕ → ℕ) (n : ℕ) (G : Given) (u : Session) → Ended (session_of derive G) u → (hash bs out : List ℕ)
    → session_of derive (back G (ended n u G) hash bs out) ≡ u
unfolding session_of memory_of
ended-back derive n G u e hash bs out = λ i. record {
  state = u.state;
  first = sym e.first i;
  size = sym e.size i;
  salt = sym e.salt i;
  width = sym e.width i;
  swaps = sym e.swaps i;
  far = sym e.far i;
  columns = u.columns;
  ours = u.ours;
  theirs = u.theirs;
  ledger = sym e.ledger i;
}
