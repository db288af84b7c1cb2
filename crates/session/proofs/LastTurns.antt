-- What the slice that completes a filter leads to, by how its reading ended. Assumes nothing.
use mathlib.Core.Path.{◌≡◌, refl, sym, ap, ap₂, subst, ◌∙◌}
use mathlib.Core.Bool.{Bool, true, false, cond, true≢false}
use mathlib.Core.List.{List}
use Prim.Native.Nat.{ℕ, ◌+◌, ◌≤◌, ◌<◌}
use native.Mathlib.Omega.{arith}
use borrow.Author.Tests.{leb-false, le-leb}
use lib.Dec.{ltb, leb}
use lib.ListN.{length, take}
use Rattle.std.specs.Prelude.{Option, Result, Ok, Err, is_err, IsOk}
use Rattle.std.specs.Result.{result_err}
use Rattle.bucket.specs.Columns.{Columns}
use Rattle.bucket.specs.Lists.{over}
use Rattle.filter.specs.declared.answers.Refusal.{Refusal}
use Rattle.filter.specs.Answers.{refusal_number, number_of}
use Rattle.filter.specs.Calls.{Read, unread, has_room, read_call, clear_call}
use Rattle.filter.specs.Steps.{Wide}
use Rattle.filter.specs.Table.{first_eight, hashes_of, ids_of}
use Rattle.filter.proofs.FilledLaws.{wide_of}
use Rattle.filter.proofs.GrantedLaws.{granted_is_ok}
use Rattle.filter.proofs.PartLaws.{range-sound}
use Rattle.message.specs.declared.kinds.Message.TheVariants.{IbfLast}
use Rattle.message.specs.declared.kinds.Slice.{Slice}
use Rattle.message.specs.Laying.{laid}
use Rattle.message.specs.Reading.{content}
use Rattle.message.specs.Writing.{layouts}
use Rattle.session.specs.declared.filters.Fate.{Fate}
use Rattle.ledger.specs.declared.numbers.Numbers.{Numbers}
use Rattle.ledger.specs.declared.numbers.Answer.{Answer}
use Rattle.ledger.specs.Session.{next_salt, next_size, ours_in, theirs_in, own_filter, clears}
use Rattle.ledger.specs.Calls.{answered}
use Rattle.form.specs.Answers.{aborted, admits_slice, is_placed}
use Rattle.session.specs.Turns.{OpenTurn, open_turn, open_turn', swapped_numbers, LastTurn, last_turn, last_turn', fate_of, untouched, wiped, kept, whole_read, read_turn}
use Rattle.session.specs.Ready.{Opens, Reads, Whole, Fated, Ended}
use Rattle.session.proofs.OpensLaws.{Listing, listing, call_reads, reading-opens}

-- ---- what is cleared

module _ {table message : List ℕ} {t : Slice} {cols : Columns} {ours theirs : List ℕ} (p : Whole table message t cols ours theirs) (r : Read)
    (ids : length r.columns.idsums ≡ length cols.idsums) (hashes : length r.columns.hashsums ≡ length cols.hashsums)
    (counts : length r.columns.counts ≡ length cols.counts) (mine : length r.ours ≡ length ours) (other : length r.theirs ≡ length theirs) where
  -- columns and lists that have kept their lengths
  pub wipes : clear_call t.size r.columns r.ours r.theirs ≡ wiped t.size r
  unfolding clear_call has_room
  wipes =
      let w : Wide 4096 cols = wide_of 4096 cols p.lays.room in
      let few = (range-sound t.size t.salt p.range).most in
      rw (
        le-leb t.size (length r.columns.idsums) (omega (arith, few, w.idsums, ids)),
        le-leb t.size (length r.columns.hashsums) (omega (arith, few, w.hashsums, hashes)),
        le-leb t.size (length r.columns.counts) (omega (arith, few, w.counts, counts)),
        le-leb t.size (length r.ours) (omega (arith, few, p.ours-room, mine)),
        le-leb t.size (length r.theirs) (omega (arith, few, p.theirs-room, other)),
      )

pub wipes_goes : (size : ℕ) (r : Read) (x : Result Unit Refusal) {c : Columns} {o th : List ℕ} → unread (number_of (result_err x)) c o th ≡ clear_call size r.columns r.ours r.theirs
    → clear_call size r.columns r.ours r.theirs ≡ wiped size r → IsOk x
wipes_goes size r x e w = granted_is_ok x (ap (λ (y : Read). y.answer.refusal) (e ∙ w))

-- ---- the reading, and what it leaves

module _ {table message : List ℕ} {t : Slice} {cols : Columns} {ours theirs : List ℕ} (p : Whole table message t cols ours theirs)
    {d : Columns} (is-laid : d ≡ laid (content (IbfLast t) message) cols)
    {r : Read} (e : r ≡ read_call first_eight t.size t.salt table d ours theirs) where
  reads : r ≡ whole_read table message t cols ours theirs
  reads =
      e
      ∙ ap (λ (c : Columns). read_call first_eight t.size t.salt table c ours theirs) is-laid
      ∙ call_reads t.size t.salt table (laid (content (IbfLast t) message) cols) ours theirs p.granted

  module _ (swaps : ℕ) {n : ℕ} (counted : n ≡ length (hashes_of table)) {f : Result Fate Refusal} (told : Fated r.answer n swaps f) where
    ends : {after : Read} → after ≡ cond (is_err f) (wiped t.size r) (kept r) → Ended (whole_read table message t cols ours theirs) table t.size swaps f after
    ends h = record {
      told =
          subst (λ (x : Read). Fated x.answer (length (hashes_of table)) swaps f) reads (subst (λ (m : ℕ). Fated r.answer m swaps f) counted told);
      leaves = h ∙ ap (λ (x : Read). cond (is_err f) (wiped t.size x) (kept x)) reads;
    }

    pub ends-kept : is_err f ≡ false → Ended (whole_read table message t cols ours theirs) table t.size swaps f (kept r)
    ends-kept k = ends (ap (λ (b : Bool). cond b (wiped t.size r) (kept r)) (sym k))

    pub ends-wiped : is_err f ≡ true → {m : ℕ} {c : Columns} {o th : List ℕ} → unread m c o th ≡ clear_call t.size r.columns r.ours r.theirs
        → clear_call t.size r.columns r.ours r.theirs ≡ wiped t.size r → Ended (whole_read table message t cols ours theirs) table t.size swaps f (untouched c o th)
    ends-wiped k q w = ends (ap kept (q ∙ w) ∙ ap (λ (b : Bool). cond b (wiped t.size r) (kept r)) (sym k))

-- ---- how the reading ended

module _ (N : Numbers) (table : List ℕ) (size salt : ℕ) (r : Read) (M I out : List ℕ) where
  abbrev From : Result Fate Refusal → Type 0
  From = Fated r.answer (length (hashes_of table)) N.swaps

  read-stops : (why : Refusal) → From (Err why) → last_turn' (aborted (refusal_number why) N) M I (wiped size r) out ≡ read_turn N table size salt r M I out
  unfolding read_turn
  read-stops why told = rw (told.0, told.1) refl

  read-opens : {o t : ℕ} → From (Ok (Fate.Opens o t)) → {a : Answer} {M' I' out' : List ℕ}
      → open_turn' a M' I' out' ≡ open_turn N table size salt (ours_in r) (theirs_in r) M I out
      → last_turn' a M' I' (kept r) out' ≡ read_turn N table size salt r M I out
  unfolding read_turn
  read-opens told e = ap (λ (o : OpenTurn). last_turn' o.answer o.marks o.inquired (kept r) o.out) e ∙ rw (told.0, told.1) refl

  module _ (beside : Option Refusal) (told : From (Ok (Fate.Swaps beside))) where
    read-swaps : {n : ℕ} {out' : List ℕ} → n ≡ length (layouts (own_filter (ids_of first_eight table) (next_size size) (next_salt salt)))
        → out' ≡ over 0 (layouts (own_filter (ids_of first_eight table) (next_size size) (next_salt salt))) out
        → last_turn' (answered (number_of beside) n 0 (swapped_numbers N size salt)) M I (kept r) out' ≡ read_turn N table size salt r M I out
    unfolding read_turn
    read-swaps e s =
        (λ i. last_turn' (answered (number_of beside) (e i) 0 (swapped_numbers N size salt)) M I (kept r) (s i))
        ∙ rw (told.0, told.1, told.2) refl

    swaps-few : N.swaps < 16
    unfolding fate_of
    swaps-few = go (leb 16 N.swaps) refl
      where
        go : (b : Bool) → leb 16 N.swaps ≡ b → N.swaps < 16
        go true e =
            let nine : number_of beside ≡ 9 =
            sym told.0
            ∙ ap₂ (λ (a b : Bool). cond a (cond (ltb 4096 (length (hashes_of table) + r.answer.theirs)) 10 0) (cond b 9 r.answer.refusal)) told.2 e in
            absurd (true≢false (sym (ap clears nine) ∙ told.1))
        go false e = leb-false 16 N.swaps e

-- ---- the message

module _ {N : Numbers} {table message : List ℕ} {t : Slice} {cols : Columns} {ours theirs marks inquired out : List ℕ}
    (p : Reads N table message t cols ours theirs marks inquired out) where
  abbrev turn : LastTurn
  turn = last_turn N table (content (IbfLast t) message) t cols ours theirs marks inquired out

  abbrev there : Read
  there = whole_read table message t cols ours theirs

  pub last_untimely : admits_slice N 1 ≡ false → last_turn' (aborted 5 N) marks inquired (untouched cols ours theirs) out ≡ turn
  unfolding last_turn
  last_untimely e = rw e

  pub last_misplaced : admits_slice N 1 ≡ true → is_placed N t.size t.offset t.salt t.width ≡ false
      → last_turn' (aborted 4 N) marks inquired (untouched cols ours theirs) out ≡ turn
  unfolding last_turn
  last_misplaced e k = rw (e, k)

  pub last_whole : is_placed N t.size t.offset t.salt t.width ≡ true → Whole table message t cols ours theirs
  last_whole k = record {
    lays = p.lays;
    table-good = p.table-good;
    range = p.range;
    granted = p.granted k;
    ours-room = p.ours-room;
    theirs-room = p.theirs-room;
  }

  last_read : admits_slice N 1 ≡ true → is_placed N t.size t.offset t.salt t.width ≡ true → read_turn N table t.size t.salt there marks inquired out ≡ turn
  unfolding last_turn
  last_read e k = rw (e, k)

  module _ {why : Refusal} {after : Read} (d : Ended there table t.size N.swaps (Err why) after) where
    pub last_stops : admits_slice N 1 ≡ true → is_placed N t.size t.offset t.salt t.width ≡ true
        → last_turn' (aborted (refusal_number why) N) marks inquired after out ≡ turn
    last_stops e k =
        ap (λ (y : Read). last_turn' (aborted (refusal_number why) N) marks inquired y out) d.leaves
        ∙ read-stops N table t.size t.salt there marks inquired out why d.told
        ∙ last_read e k

  module _ {a b : ℕ} {after : Read} (d : Ended there table t.size N.swaps (Ok (Fate.Opens a b)) after) where
    ours_is : take a after.ours ≡ ours_in there
    ours_is = ap₂ take d.told.2 (ap (λ (x : Read). x.ours) d.leaves)

    theirs_is : take b after.theirs ≡ theirs_in there
    theirs_is = ap₂ take d.told.3 (ap (λ (x : Read). x.theirs) d.leaves)

    pub opens_ready :
        Opens table (take a after.ours) marks × (a ≤ length after.ours) × (b ≤ length after.theirs) × (a ≤ 4096) × (b ≤ 4096) × (t.salt < 64)
        × (4096 ≤ length inquired) × (295008 ≤ length out)
    opens_ready =
        let l : Listing t.size there = listing first_eight (hashes_of table) t.size t.salt (laid (content (IbfLast t) message) cols) ours theirs in
        let r = range-sound t.size t.salt p.range in (
          subst (λ (xs : List ℕ). Opens table xs marks) (sym ours_is)
              (reading-opens t.size t.salt table (laid (content (IbfLast t) message) cols) ours theirs p.table-good d.told.1 marks p.marks-room),
          omega (arith, d.told.2, l.ours-there, ap (λ (x : Read). length x.ours) d.leaves),
          omega (arith, d.told.3, l.theirs-there, ap (λ (x : Read). length x.theirs) d.leaves),
          omega (arith, d.told.2, l.ours-few, r.most),
          omega (arith, d.told.3, l.theirs-few, r.most),
          r.salt_in,
          p.inquired-room,
          p.out-room,
        )

    pub last_opens : admits_slice N 1 ≡ true → is_placed N t.size t.offset t.salt t.width ≡ true → {r : Answer} {M I o : List ℕ}
        → open_turn' r M I o ≡ open_turn N table t.size t.salt (take a after.ours) (take b after.theirs) marks inquired out
        → last_turn' r M I after o ≡ turn
    last_opens e k {r} {M} {I} {o} s =
        ap (λ (y : Read). last_turn' r M I y o) d.leaves
        ∙ read-opens N table t.size t.salt there marks inquired out d.told
        (s ∙ ap₂ (λ (xs ys : List ℕ). open_turn N table t.size t.salt xs ys marks inquired out) ours_is theirs_is)
        ∙ last_read e k

  module _ {beside : Option Refusal} {after : Read} (d : Ended there table t.size N.swaps (Ok (Fate.Swaps beside)) after) where
    pub swaps_ready : (t.size ≤ 4096) × (t.salt < 64) × (N.swaps < 16)
    swaps_ready =
        let r = range-sound t.size t.salt p.range in
        (r.most, r.salt_in, swaps-few N table t.size t.salt there marks inquired out beside d.told)

    pub last_swaps : admits_slice N 1 ≡ true → is_placed N t.size t.offset t.salt t.width ≡ true → {next : Numbers} → next ≡ swapped_numbers N t.size t.salt → {n : ℕ} {o : List ℕ}
        → n ≡ length (layouts (own_filter (ids_of first_eight table) next.size next.salt))
        → o ≡ over 0 (layouts (own_filter (ids_of first_eight table) next.size next.salt)) out
        → last_turn' (answered (number_of beside) n 0 next) marks inquired after o ≡ turn
    last_swaps e k s {n} {o} i j =
        ap₂ (λ (x : Numbers) (y : Read). last_turn' (answered (number_of beside) n 0 x) marks inquired y o) s d.leaves
        ∙ read-swaps N table t.size t.salt there marks inquired out beside d.told
        (i ∙ ap (λ (x : Numbers). length (layouts (own_filter (ids_of first_eight table) x.size x.salt))) s)
        (j ∙ ap (λ (x : Numbers). over 0 (layouts (own_filter (ids_of first_eight table) x.size x.salt)) out) s)
        ∙ last_read e k
