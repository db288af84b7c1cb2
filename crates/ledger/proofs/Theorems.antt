-- What a reader looks for in the session's definition, each under document 01's words. Assumes nothing.
use mathlib.Core.Path.{◌≡◌, refl, sym, subst, ◌∙◌}
use mathlib.Core.Logic.{◌⊎◌, inl, inr}
use mathlib.Core.Bool.{Bool, true, false, ◌&&◌, ◌||◌, false≢true, or-false}
use mathlib.Core.List.{List, [], ◌∷◌, ◌++◌}
use Prim.Native.Nat.{ℕ, suc, ◌<◌, ◌^◌}
use lib.Dec.{eqb, leb}
use lib.ListN.{length}
use borrow.Author.Tests.{eqb-true}
use Rattle.bucket.specs.Bucket.{𝟎}
use Rattle.bucket.specs.Columns.{Columns, view}
use Rattle.bucket.specs.Lists.{elem, Distinct}
use Rattle.std.specs.Prelude.{None}
use Rattle.filter.specs.Calls.{in_range, are_counts, has_room, filled, listed_into, read_refusal, Read, read_call}
use Rattle.filter.specs.Filter.{filter_rule, filter_of}
use Rattle.filter.specs.Lists.{minus}
use Rattle.filter.specs.Stopping.{differing, Clear, Exactly}
use Rattle.filter.specs.Table.{hashes_of, is_table}
use Rattle.filter.proofs.Demand3.{complete_trusted, complete-set, reads_exactly}
use Rattle.message.specs.Layout.{Content, slice, inquiry, offer, demand, element, done, Good}
use Rattle.message.specs.Laying.{laid}
use Rattle.filter.specs.Sets.{insert}
use Rattle.ledger.specs.Grid.{PASSIVE, is_ended, is_last}
use Rattle.ledger.specs.Session.{Ledger, Session, is_slice, by_slice, unmet, answer, next_salt, next_size, is_complete, is_false, ours_in, theirs_in, own_filter, acts, ids_of, held, read_of, tests, refusal, swapped, on_slice, act, cleared, halted, refused, step}
use Rattle.ledger.specs.Form.{good_numbers, good_ledger}
use Rattle.filter.proofs.ListLaws.{implies_not}
use Rattle.filter.proofs.SetLaws.{◌⊆◌, ◌∈◌, and_l, and_r, in_insert, Asc}
use Rattle.ledger.proofs.BookLaws.{Table, Form, table_of_lem, form_of, of_form}
use Rattle.ledger.proofs.GridLaws.{slice-kind, ended-stopped, ended_admits}
use Rattle.ledger.proofs.FaultLaws.{by_kind, plain, fails, six_fails, Ended, refused-ended}
use Rattle.ledger.proofs.ReadingLaws.{granted, reading-granted, complete-clean, false_cleared}
use Rattle.ledger.proofs.FormKept.{kept_step}
use Rattle.ledger.proofs.ChangeLaws.{gained-step, held-insert, held_same}

-- ---- "Its form: .."

-- every step keeps it
pub form-kept : (derive : ℕ → ℕ) (t : List ℕ) → Table derive t → (h : ℕ) (s : Session) (c : Content) → Good c → Form derive t s
    → Form derive t (step derive t h s c).session
form-kept derive t g h s c gm f = kept_step derive t g h s c f gm

-- the same by the tests of refusal 1, over a table of bytes
pub tests-kept : (derive : ℕ → ℕ) (bytes : List ℕ) → is_table derive bytes ≡ true → (h : ℕ) (s : Session) (c : Content) → Good c
    → good_numbers s ≡ true → good_ledger derive (hashes_of bytes) s ≡ true
    → let u = (step derive (hashes_of bytes) h s c).session in (good_numbers u ≡ true) × (good_ledger derive (hashes_of bytes) u ≡ true)
tests-kept derive bytes e h s c g n l =
    let t : List ℕ = hashes_of bytes in
    let table : Table derive t = table_of_lem derive bytes e in
    of_form derive t (step derive t h s c).session table.asc (form-kept derive t table h s c g (form_of derive t s n l))

module _ (derive : ℕ → ℕ) (t : List ℕ) where
  -- ---- "Refusal numbers": what is left

  -- every number but 6: the ledger stays, the state is 7, or 6 where it was 6, and nothing is sent
  pub refusal-leaves : (h : ℕ) (s : Session) (c : Content) → acts (refusal derive t h s c) ≡ false
      → Ended s (step derive t h s c).session × ((step derive t h s c).sent ≡ []) × ((step derive t h s c).due ≡ [])
  unfolding step
  refusal-leaves h s c e = rw e (refused-ended derive t (refusal derive t h s c) s c, refl, refl)

  pub refusal-ledger : (n : ℕ) (s : Session) (c : Content) → acts n ≡ false → (refused derive t n s c).ledger ≡ s.ledger
  refusal-ledger n s c e = (refused-ended derive t n s c).ledger

  -- "buffers unchanged; in a session, state 7": every number but 9 and 10
  pub refusal_buffers : (n : ℕ) (s : Session) (c : Content) → eqb n 9 || eqb n 10 ≡ false → refused derive t n s c ≡ halted derive t s
  unfolding refused
  refusal_buffers n s c e = by_kind (λ (u : Session). u ≡ halted derive t s) c _ _ (λ size offset salt width ids hashes counts q. rw e) (λ k. refl)

  -- 10: "after a reading as 9, else as 4"
  pub refusal_no_reading : (n : ℕ) (s : Session) (c : Content) → is_slice c ≡ false → refused derive t n s c ≡ halted derive t s
  unfolding refused
  refusal_no_reading n s c k = plain c _ (halted derive t s) k

  -- "state 7, columns and lists all zero, the rest unchanged"
  pub refusal-cleared : (n : ℕ) (s : Session) (size offset salt width : ℕ) (ids hashes counts : List ℕ) → eqb n 9 || eqb n 10 ≡ true
      → let c = slice size offset salt width ids hashes counts in
      refused derive t n s c ≡ cleared derive t s (read_of derive t s c size salt) size
  unfolding refused by_slice
  refusal-cleared n s size offset salt width ids hashes counts e = rw e

  -- 6, "a filter's reading false", is of a slice alone
  pub false_slice : (h : ℕ) (s : Session) (c : Content) → refusal derive t h s c ≡ 6 → is_slice c ≡ true
  unfolding tests fails
  false_slice h s c e = go c (six_fails derive t h s c e)
    where
      go : (c : Content) → fails 6 (tests derive t h s c) ≡ true → is_slice c ≡ true
      go (slice size offset salt width ids hashes counts) o = slice-kind (is_last size offset)
      go (inquiry salt xs) o = absurd (false≢true o)
      go (offer hs) o = absurd (false≢true o)
      go (demand hs) o = absurd (false≢true o)
      go (element bytes) o = absurd (false≢true o)
      go (done check) o = absurd (false≢true o)

  -- "columns and lists all zero; the session swaps": zero in the places of the filter read, and behind them as the laying left them; state 3, one swap
  -- more, our filter sent at salt + 1 (63 goes to 0) and twice the size, at most 4,096; the ledger stays
  pub refusal_false : (h : ℕ) (s : Session) (size offset salt width : ℕ) (ids hashes counts : List ℕ)
      → let c = slice size offset salt width ids hashes counts in
      refusal derive t h s c ≡ 6
      → step derive t h s c
      ≡ answer
      (record {
        state = PASSIVE;
        first = true;
        size = next_size size;
        salt = next_salt salt;
        width = 0;
        swaps = suc s.swaps;
        far = s.far;
        columns = filled size (λ i. 𝟎) (laid c s.columns);
        ours = listed_into size [] s.ours;
        theirs = listed_into size [] s.theirs;
        ledger = s.ledger;
      })
      (own_filter (ids_of derive t) (next_size size) (next_salt salt))
  unfolding step act by_slice on_slice swapped tests fails
  refusal_false h s size offset salt width ids hashes counts e =
      let c : Content = slice size offset salt width ids hashes counts in
      let w : Bool = is_last size offset in
      let o : w && is_false (read_of derive t s c size salt) ≡ true = sym (implies_not w (is_false (read_of derive t s c size salt))) ∙ rw or-false at (six_fails derive t h s c e) in
      let whole : is_last size offset ≡ true = and_l w _ o in
      let zero = false_cleared derive t size salt (laid c s.columns) s.ours s.theirs (and_r w _ o) in
      rw (e, whole, zero)

  -- 5: "states 6 and 7 stay"
  pub ended_stays : (h : ℕ) (s : Session) (c : Content) → is_ended s.state ≡ true
      → (refusal derive t h s c ≡ 5) × ((step derive t h s c).session ≡ s)
  unfolding refusal step
  ended_stays h s c e = rw (ended_admits s c e) (refl, refusal_buffers 5 s c refl ∙ same)
    where
      same : halted derive t s ≡ s
      same = λ i. record {
        state = ended-stopped s.state e i;
        first = s.first;
        size = s.size;
        salt = s.salt;
        width = s.width;
        swaps = s.swaps;
        far = s.far;
        columns = s.columns;
        ours = s.ours;
        theirs = s.theirs;
        ledger = s.ledger;
      }

  -- ---- "'Held' means in the table or gained."

  -- it only grows, and only by the element that was demanded and unmet
  pub held_grows : Asc t → (h : ℕ) (s : Session) (c : Content) → Form derive t s
      → let K = (step derive t h s c).session.ledger in
      (held derive t K ≡ held derive t s.ledger) ⊎ ((h ∈ unmet s.ledger) × (held derive t K ≡ insert h (held derive t s.ledger)))
  held_grows at h s c f = go (gained-step derive t h s c f)
    where
      L : Ledger
      L = s.ledger

      K : Ledger
      K = (step derive t h s c).session.ledger

      go : (K.gained ≡ L.gained) ⊎ ((h ∈ unmet L) × (K.gained ≡ insert h L.gained))
          → (held derive t K ≡ held derive t L) ⊎ ((h ∈ unmet L) × (held derive t K ≡ insert h (held derive t L)))
      go (inl e) = inl (held_same derive t L K e)
      go (inr (u, e)) = inr (u, held-insert derive t h L K at e)

  pub held_kept : Asc t → (h : ℕ) (s : Session) (c : Content) → Form derive t s → held derive t s.ledger ⊆ held derive t (step derive t h s c).session.ledger
  held_kept at h s c f x k = go (held_grows at h s c f)
    where
      L : Ledger
      L = s.ledger

      K : Ledger
      K = (step derive t h s c).session.ledger

      go : (held derive t K ≡ held derive t L) ⊎ ((h ∈ unmet L) × (held derive t K ≡ insert h (held derive t L))) → x ∈ held derive t K
      go (inl e) = subst (λ (l : List ℕ). x ∈ l) (sym e) k
      go (inr (u, e)) = subst (λ (l : List ℕ). x ∈ l) (sym e) (in_insert x h (held derive t L) k)

  -- ---- any sequence of messages

  -- the session after messages, each with the hash that the caller worked out
  unfoldable pub after : Session → List (ℕ × Content) → Session
  after s [] = s
  after s (m ∷ ms) = after (step derive t m.0 s m.1).session ms

  abbrev pub AllGood : List (ℕ × Content) → Type 0
  AllGood [] = Unit {0}
  AllGood (m ∷ ms) = Good m.1 × AllGood ms

  pub form-after : Table derive t → (s : Session) (ms : List (ℕ × Content)) → Form derive t s → AllGood ms → Form derive t (after s ms)
  unfolding after
  form-after g s [] f a = f
  form-after g s (m ∷ ms) f a = form-after g (step derive t m.0 s m.1).session ms (form-kept derive t g m.0 s m.1 a.0 f) a.1

-- ---- readings

module _ (derive : ℕ → ℕ) (bytes : List ℕ) (s : Session) (c : Content) (size salt : ℕ) where
  -- filter's refusals 1 to 3 do not stop it; so it is of every slice that completes a filter, in a session that has its form and its rooms
  -- (LastLaws, last_granted)
  abbrev pub Granted : Type 0
  Granted = read_refusal derive size salt bytes (laid c s.columns) s.ours s.theirs ≡ None

  pub reading-granted_by : is_table derive bytes ≡ true → are_counts size (laid c s.columns).counts ≡ true → in_range size salt ≡ true
      → has_room size (laid c s.columns) ≡ true → leb size (length s.ours) ≡ true → leb size (length s.theirs) ≡ true → Granted
  reading-granted_by = granted derive size salt bytes (laid c s.columns) s.ours s.theirs

  -- the reading in a session is filter's
  pub reading_is_filters : Granted
      → read_of derive (hashes_of bytes) s c size salt ≡ read_call derive size salt bytes (laid c s.columns) s.ours s.theirs
  reading_is_filters = reading-granted derive size salt bytes (laid c s.columns) s.ours s.theirs

  -- demand 3: "in a session, the reading as it stands before refusal 9 or 10 clears its lists". A complete one is trusted: the received filter is that
  -- of our IDs less those listed as ours, which are of them, plus those listed as theirs, and what it is made from is a set
  abbrev pub Trusted : Read → Type 0
  Trusted r =
      let ids = ids_of derive (hashes_of bytes) in
      ((i : ℕ) → i < size → view (laid c s.columns) i ≡ filter_of (filter_rule size salt) (minus ids (ours_in r) ++ theirs_in r) i)
      × ((a : ℕ) → elem a (ours_in r) ≡ true → elem a ids ≡ true)
      × Distinct (minus ids (ours_in r) ++ theirs_in r)

  pub session_trusted : Granted → is_complete (read_of derive (hashes_of bytes) s c size salt) ≡ true → Trusted (read_of derive (hashes_of bytes) s c size salt)
  unfolding ids_of Rattle.filter.specs.Table.ids_of
  session_trusted g whole =
      let set = complete-set derive size salt bytes cols s.ours s.theirs full in
      subst Trusted (sym same) (
        complete_trusted derive size salt bytes cols s.ours s.theirs
            (subst (λ (r : Read). r.answer.refusal ≡ 0) same (complete-clean derive (hashes_of bytes) size salt cols s.ours s.theirs whole)) full,
        set.0,
        set.1,
      )
    where
      cols : Columns
      cols = laid c s.columns

      same : read_of derive (hashes_of bytes) s c size salt ≡ read_call derive size salt bytes cols s.ours s.theirs
      same = reading_is_filters g

      full : (read_call derive size salt bytes cols s.ours s.theirs).answer.complete ≡ 1
      full = eqb-true _ 1 (subst (λ (r : Read). is_complete r ≡ true) same whole)

  pub session_exact : ((h : ℕ) → h < 2 ^ 512 → derive h < 2 ^ 64) → Granted → (far : List ℕ) → Distinct far → ((a : ℕ) → elem a far ≡ true → a < 2 ^ 64)
      → ((i : ℕ) → i < size → view (laid c s.columns) i ≡ filter_of (filter_rule size salt) far i)
      → Clear (filter_rule size salt) (differing (ids_of derive (hashes_of bytes)) far)
      → let r = read_of derive (hashes_of bytes) s c size salt in
      (r.answer.refusal ≡ 0) × Exactly (filter_rule size salt) (ids_of derive (hashes_of bytes)) far (ours_in r) (theirs_in r) (is_complete r)
  unfolding ids_of Rattle.filter.specs.Table.ids_of
  session_exact bound g far once small made clear =
      subst
      (λ (r : Read). (r.answer.refusal ≡ 0) × Exactly (filter_rule size salt) (ids_of derive (hashes_of bytes)) far (ours_in r) (theirs_in r) (is_complete r))
      (sym (reading_is_filters g))
      (reads_exactly derive bound size salt bytes (laid c s.columns) s.ours s.theirs g far once small made clear)
