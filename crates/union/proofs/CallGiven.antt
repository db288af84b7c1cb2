-- What a call whose own tests passed can count on, over any derivation of IDs: the table, the session's form, what is short, and the rooms.
--
--   given-table, given-form   refusal 1's test as statements
--   roomy                     a session in form has its room
--   Lent G                    what C gives for free of what is lent
--   given_narrow, given-far   what stands in memory as hashes has 512 bits
--   Rooms G, rooms_of_lem         refusal 2's test as statements
--
-- Assumes nothing.
use mathlib.Core.Path.{◌≡◌, sym, ◌∙◌, subst}
use mathlib.Core.Bool.{true, false, ◌&&◌}
use mathlib.Core.Logic.{◌⊎◌, inl, inr}
use mathlib.Core.List.{List, map}
use Prim.Native.Nat.{ℕ, ◌*◌, ◌^◌, ◌≤◌, ◌<◌}
use native.Mathlib.Omega.{arith}
use lib.Dec.{leb}
use lib.ListN.{length, take, length-map}
use Rattle.bucket.specs.Digits.{Below}
use Rattle.bucket.specs.Lists.{elem, Distinct}
use Rattle.bucket.proofs.OverLaws.{number_lt}
use Rattle.filter.specs.Calls.{are_counts, has_room}
use Rattle.filter.specs.Sets.{implies}
use Rattle.filter.specs.Table.{hashes_of, is_table}
use Rattle.filter.proofs.ListLaws.{implies_of, count_le, count-distinct, distinct-map}
use Rattle.filter.proofs.SetLaws.{◌∈◌, ◌⊆◌, either, and_l, and_r, in_append-r, asc-distinct}
use Rattle.message.proofs.RoundLaws.{hashes-below}
use Rattle.ledger.specs.Grid.{EXPECTING_LAST, is_state}
use Rattle.ledger.specs.Session.{Ledger, Session, «in», unmet, ids_of, held, concerned}
use Rattle.ledger.specs.Form.{good_numbers, good_ledger, idle}
use Rattle.ledger.specs.Memory.{all_below, decode}
use Rattle.ledger.specs.Calls.{Given, memory_of, table_of, session_of, readable, counts_nothing, good_front, good_form, has_ledger_room, has_rooms}
use Rattle.ledger.proofs.BookLaws.{Table, Books, Form, table_of_lem, form_of}
use Rattle.ledger.proofs.HeldLaws.{in_ids, ids_in_lem, in_unmet, gained-held, in_concerned}
use Rattle.ledger.proofs.ThereLaws.{Ledgered, ledgered, back_whole}
use Rattle.ledger.proofs.BelowLaws.{Fit, fit_of}
use Rattle.union.proofs.HandedBack.{Roomy}
use Rattle.union.proofs.SentLaws.{Narrow}

-- ---- how long the lists of a ledger in form are

module _ (derive : ℕ → ℕ) (t : List ℕ) (L : Ledger) (b : Books derive t L) where
  -- IDs held or wanted
  pub concerned-few : (l : List ℕ) → Distinct l → l ⊆ concerned derive t L → length l ≤ 4096
  concerned-few l once h = omega (arith, b.few, count-distinct l once, count_le l (concerned derive t L) h)

  demanded-concerned : ids_of derive L.demanded ⊆ concerned derive t L
  demanded-concerned x e =
      let (h, m, q) = ids_in_lem derive x L.demanded e in
      subst (λ (y : ℕ). y ∈ concerned derive t L) q (go h m (either (elem h L.gained)))
    where
      go : (h : ℕ) → h ∈ L.demanded → (h ∈ L.gained) ⊎ (elem h L.gained ≡ false) → derive h ∈ concerned derive t L
      go h m (inl g) = in_concerned derive t L (derive h) (inl (in_ids derive h (held derive t L) (gained-held derive t L h g)))
      go h m (inr n) = in_concerned derive t L (derive h) (inr (inr (in_ids derive h (unmet L) (in_unmet L h m n))))

  pub demanded-few : length L.demanded ≤ 4096
  unfolding ids_of
  demanded-few = omega (arith, length-map L.demanded derive, concerned-few (map derive L.demanded) once demanded-concerned)
    where
      once : Distinct (map derive L.demanded)
      once =
          distinct-map derive L.demanded
          (λ x y p q. b.no_shared x y (in_append-r x t L.demanded p) (in_append-r y t L.demanded q))
          (asc-distinct L.demanded b.demanded_asc)

  pub inquired-few : length L.inquired ≤ 4096
  inquired-few = concerned-few L.inquired (asc-distinct L.inquired b.inquired_asc) (λ x e. in_concerned derive t L x (inr (inl e)))

-- ---- what a good form says

module _ (derive : ℕ → ℕ) (G : Given) (form : good_form derive G ≡ true) where
  abbrev s : Session
  s = session_of derive G

  front : good_front derive G ≡ true
  unfolding good_form
  front = and_l (good_front derive G) _ form

  pub given-table : is_table derive G.table ≡ true
  unfolding good_front
  given-table = and_l (is_table derive G.table) _ front

  pub given-readable : readable G.numbers ≡ true
  unfolding good_front
  given-readable = and_l (readable G.numbers) _ (and_r (is_table derive G.table) _ front)

  rest : good_numbers s && (implies (idle s) (counts_nothing G.numbers) && implies («in» s EXPECTING_LAST) (are_counts 2520 G.columns.counts)) ≡ true
  unfolding good_front
  rest = and_r (readable G.numbers) _ (and_r (is_table derive G.table) _ front)

  pub given-numbers : good_numbers s ≡ true
  given-numbers = and_l (good_numbers s) _ rest

  -- in state 1 the columns were judged
  pub given-counts : «in» s EXPECTING_LAST ≡ true → are_counts 2520 G.columns.counts ≡ true
  given-counts = implies_of («in» s EXPECTING_LAST) _ (and_r (implies (idle s) (counts_nothing G.numbers)) _ (and_r (good_numbers s) _ rest))

  pub given-good : Table derive (table_of G)
  given-good = table_of_lem derive G.table given-table

  pub given-state : is_state s.state ≡ true
  unfolding good_numbers
  given-state = and_l (is_state s.state) _ given-numbers

  -- a ledger that has its room
  module _ (room : has_ledger_room G ≡ true) where
    pub given_ledgered : Ledgered G
    given_ledgered = ledgered G room given-readable

    back : all_below 8 (memory_of G).marks && (all_below 16 (memory_of G).flags && good_ledger derive (table_of G) s) ≡ true
    unfolding good_form
    back = sym (back_whole G given_ledgered derive) ∙ and_r (good_front derive G) _ form

    pub given-form : Form derive (table_of G) s
    given-form =
        form_of derive (table_of G) s given-numbers
        (and_r (all_below 16 (memory_of G).flags) _ (and_r (all_below 8 (memory_of G).marks) _ back))

    pub given-far : s.far < 2 ^ 512
    unfolding session_of
    given-far = number_lt 262144 G.records 64 given_ledgered.records

    -- a session in form has its room in what was given
    pub roomy : (u : Session) → Form derive (table_of G) u → Narrow u → u.far < 2 ^ 512 → Roomy G u
    roomy u f n far = record {
      table = given-good.few;
      demanded = demanded-few derive (table_of G) u.ledger f.books;
      inquired = inquired-few derive (table_of G) u.ledger f.books;
      records-room = given_ledgered.records;
      marks-room = given_ledgered.marks;
      inquired-room = given_ledgered.inquired;
      far = far;
      hashes = n.demanded;
    }

-- ---- what is short

-- What C gives for free of what is lent: a message is bytes, and IDSUMs are words of 64 bits.
pub record Lent (G : Given) : Type 0 where
  pub message : Below 8 G.message
  pub ids : Below 64 G.columns.idsums

-- hashes that are read from memory have 512 bits
pub table-short : (G : Given) → Fit 512 (table_of G)
table-short G = fit_of 512 (table_of G) (hashes-below G.table)

pub given_narrow : (derive : ℕ → ℕ) (G : Given) → Lent G → Narrow (session_of derive G)
unfolding session_of decode memory_of
given_narrow derive G lent = record {
  columns = lent.ids;
  demanded = fit_of 512 (hashes_of (take (64 * G.numbers.demanded) G.records)) (hashes-below (take (64 * G.numbers.demanded) G.records));
}

-- ---- rooms

pub record Rooms (G : Given) : Type 0 where
  pub ledger : has_ledger_room G ≡ true
  pub columns : has_room 4096 G.columns ≡ true
  pub ours : leb 4096 (length G.ours) ≡ true
  pub theirs : leb 4096 (length G.theirs) ≡ true
  pub hash : leb 64 (length G.hash) ≡ true
  pub out : leb 295008 (length G.out) ≡ true

pub rooms_of_lem : (G : Given) → has_rooms G ≡ true → Rooms G
unfolding has_rooms
rooms_of_lem G e =
    let e1 = and_r (has_ledger_room G) _ e in
    let e2 = and_r (has_room 4096 G.columns) _ e1 in
    let e3 = and_r (leb 4096 (length G.ours)) _ e2 in
    let e4 = and_r (leb 4096 (length G.theirs)) _ e3 in
    record {
      ledger = and_l (has_ledger_room G) _ e;
      columns = and_l (has_room 4096 G.columns) _ e1;
      ours = and_l (leb 4096 (length G.ours)) _ e2;
      theirs = and_l (leb 4096 (length G.theirs)) _ e3;
      hash = and_l (leb 64 (length G.hash)) _ e4;
      out = and_r (leb 64 (length G.hash)) _ e4;
    }
