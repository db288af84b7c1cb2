-- The reading call put together, over variables: a peeling of the difference is the definition's, and what the call's last step leaves is
-- the definition's memory. Assumes nothing.
use mathlib.Core.Path.{◌≡◌, refl, sym, ap, ap₂, ◌∙◌, subst}
use mathlib.Core.Bool.{Bool, true, false, ◌&&◌, and-eq-true_iff}
use mathlib.Core.List.{List, [], ◌++◌, reverse, append_assoc}
use Prim.Native.Nat.{ℕ, zero, suc, ◌+◌, ◌-◌, ◌≤◌}
use native.Mathlib.Omega.{arith}
use borrow.Author.Tests.{leb-true}
use lib.Dec.{leb}
use lib.ListN.{length, take, drop, replicate, length-reverse, length-replicate}
use lib.Seq.{take-append_seam, drop-drop, drop_at, drop-append-le}
use native.Mathlib.Nat.{zero-add}
use Rattle.bucket.specs.Bucket.{Bucket, 𝟎}
use Rattle.bucket.specs.Columns.{Columns, view}
use Rattle.bucket.specs.Lists.{over, pad}
use Rattle.bucket.proofs.OverLaws.{open_over, over-length}
use Rattle.bucket.proofs.ListLaws.{pad-length}
use Rattle.std.specs.Prelude.{Option, Some, None, is_some}
use Rattle.filter.specs.declared.peeling.Lengths.{Lengths}
use Rattle.filter.specs.declared.answers.Verdict.{Verdict}
use Rattle.filter.specs.declared.answers.Verdict.TheVariants.{Complete, Stuck, False}
use Rattle.filter.specs.Answers.{answer}
use Rattle.filter.specs.Filter.{Item, Rule, rule, filter_rule, ours_of, theirs_of}
use Rattle.filter.specs.Peeling.{Outcome, all_zero, agrees, reading, looked, verdict_by, verdict}
use Rattle.filter.specs.Calls.{in_range, are_counts, has_room, filled, listed_into, Read, answered, read_as, read_with, read_refusal, read_by, read_call}
use Rattle.filter.specs.Table.{first_eight, ids_of, is_table}
use Rattle.filter.specs.Steps.{Wide, every, Ready, Listed, Peels}
use Rattle.filter.proofs.FilledLaws.{view-filled_in, filled-filled, filled_cong, wide-filled, wide_of}
use Rattle.filter.proofs.PeelLaws.{Alike, reading_cong, looked_cong, all_zero_cong}
use Rattle.filter.proofs.SideLaws.{ours-few, theirs-few}
use Rattle.filter.proofs.JudgeLaws.{every-reverse, agrees_sides}

-- ---- lists

over-start : (a l : List ℕ) → over 0 a l ≡ a ++ drop (length a) l
over-start a l = open_over 0 a l ∙ ap (λ (m : ℕ). a ++ drop m l) (zero-add (length a))

none_off : (n : ℕ) → n - 0 ≡ n
none_off n = omega arith

drop-zeros : (k n : ℕ) → drop k (replicate {A = ℕ} n 0) ≡ replicate {A = ℕ} (n - k) 0
drop-zeros zero n = ap (λ (m : ℕ). replicate {A = ℕ} m 0) (sym (none_off n))
drop-zeros (suc k) zero = let e : 0 ≡ 0 - suc k = omega arith in ap (λ (m : ℕ). replicate {A = ℕ} m 0) e
drop-zeros (suc k) (suc n) = let e : n - k ≡ suc n - suc k = omega arith in drop-zeros k n ∙ ap (λ (m : ℕ). replicate {A = ℕ} m 0) e

-- what is written over as a whole is gone
over_covers : (a b l : List ℕ) → length b ≤ length a → length b ≤ length l → over 0 a (over 0 b l) ≡ over 0 a l
over_covers a b l h k =
    over-start a (over 0 b l)
    ∙ ap (λ (r : List ℕ). a ++ r)
    (ap (λ (m : ℕ). drop m (over 0 b l)) (sym there) ∙ sym (drop-drop (length a - length b) (length b) (over 0 b l))
    ∙ ap (drop (length a - length b)) gone ∙ drop-drop (length a - length b) (length b) l ∙ ap (λ (m : ℕ). drop m l) there)
    ∙ sym (over-start a l)
  where
    there : length b + (length a - length b) ≡ length a
    there = omega arith

    gone : drop (length b) (over 0 b l) ≡ drop (length b) l
    gone = ap (drop (length b)) (over-start b l) ∙ drop_at b (drop (length b) l) (length b) refl

zeros : (n : ℕ) → pad n [] ≡ replicate {A = ℕ} n 0
unfolding pad
zeros n = ap (λ (m : ℕ). replicate {A = ℕ} m 0) (none_off n)

pub listed-length : (n : ℕ) (l o : List ℕ) → length l ≤ n → n ≤ length o → length (listed_into n l o) ≡ length o
unfolding listed_into
listed-length n l o h k = over-length 0 o (pad n l) (let e = pad-length n l h in omega arith)

-- written over zeros, and zeros written over it
module _ (n : ℕ) (xs o : List ℕ) (h : length xs ≤ n) (k : n ≤ length o) where
  pub listed-over : over 0 xs (listed_into n [] o) ≡ listed_into n xs o
  unfolding listed_into pad
  listed-over =
      over-start xs (over 0 (pad n []) o)
      ∙ ap (λ (r : List ℕ). xs ++ r)
      (ap (drop (length xs)) (over-start (pad n []) o ∙ ap (λ (z : List ℕ). z ++ drop (length (pad n [])) o) (zeros n))
      ∙ drop-append-le (length xs) (replicate n 0) (drop (length (pad n [])) o) (let e = length-replicate {A = ℕ} n 0 in omega arith)
      ∙ ap₂ {C = List ℕ} ◌++◌ (drop-zeros (length xs) n) (ap (λ (m : ℕ). drop m o) lengths))
      ∙ sym (append_assoc xs (replicate (n - length xs) 0) (drop (length (pad n xs)) o))
      ∙ sym (over-start (pad n xs) o)
    where
      lengths : length (pad n []) ≡ length (pad n xs)
      lengths = pad-length n [] (omega arith) ∙ sym (pad-length n xs h)

  pub listed-cleared : listed_into n [] (over 0 xs (listed_into n [] o)) ≡ listed_into n [] o
  unfolding listed_into
  listed-cleared =
      over_covers (pad n []) xs (over 0 (pad n []) o) (let e = pad-length n [] (omega arith) in omega arith) (let f = over-length 0 o (pad n []) (let e = pad-length n [] (omega arith) in omega arith) in omega arith)
      ∙ over_covers (pad n []) (pad n []) o (omega arith) (let e = pad-length n [] (omega arith) in omega arith)

  pub listed-taken : take (length xs) (over 0 xs (listed_into n [] o)) ≡ xs
  unfolding over
  listed-taken = take-append_seam xs _

-- ---- the peeling of the difference

module _ (R : Rule) (D : ℕ → Bucket) (c₀ : Columns) (w : Wide R.size c₀) where
  -- columns that hold D are read as D is
  alike : Alike R (reading R (view (filled R.size D c₀))) (reading R D)
  alike = reading_cong R (view (filled R.size D c₀)) D (λ i h. view-filled_in R.size D c₀ i w h)

  pub peels_from : {o₀ t₀ : List ℕ} {n : Option Lengths} {c : Columns} {o t : List ℕ}
      → Peels R.size (reading R (view (filled R.size D c₀))) (filled R.size D c₀) o₀ t₀ n c o t
      → Peels R.size (reading R D) c₀ o₀ t₀ n c o t
  peels_from {o₀} {t₀} {n} {c} {o} {t} p = record {
    fine_is = p.fine_is ∙ alike.fine;
    rest_is = λ e.
        p.rest_is e ∙ filled-filled R.size D (reading R (view (filled R.size D c₀))).rest c₀ w
        ∙ filled_cong R.size (reading R (view (filled R.size D c₀))).rest (reading R D).rest c₀ alike.rest;
    listed_is = λ m e. subst (λ (l : List Item). Listed o₀ t₀ l o t m.ours m.theirs) alike.listed (p.listed_is m e);
    listed_few = p.listed_few;
    some = p.some;
    ours-some = p.ours-some;
    theirs-some = p.theirs-some;
    listed-some = p.listed-some;
    few = p.few;
    rest = p.rest;
    kept = p.kept ∙ filled-filled R.size D p.rest c₀ w;
  }

-- the same where the columns, the lists and the number of places are known by equations
pub peels_call : (size salt K : ℕ) (D : ℕ → Bucket) (c₀ : Columns) → Wide size c₀ → (k : ℕ) {c₁ : Columns} {o₁ t₁ o₀ t₀ : List ℕ}
    → k ≡ K → c₁ ≡ filled size D c₀ → o₁ ≡ o₀ → t₁ ≡ t₀
    → {n : Option Lengths} {c : Columns} {o t : List ℕ} → Peels size (reading (rule k size salt) (view c₁)) c₁ o₁ t₁ n c o t
    → Peels size (reading (rule K size salt) D) c₀ o₀ t₀ n c o t
peels_call size salt K D c₀ w k {c₁} {o₁} {t₁} {o₀} {t₀} e f g h {n} {c} {o} {t} p =
    peels_from (rule K size salt) D c₀ w
    (subst (λ (x : List ℕ). Peels size (reading (rule K size salt) (view (filled size D c₀))) (filled size D c₀) o₀ x n c o t) h
    (subst (λ (x : List ℕ). Peels size (reading (rule K size salt) (view (filled size D c₀))) (filled size D c₀) x t₁ n c o t) g
    (subst (λ (d : Columns). Peels size (reading (rule K size salt) (view d)) d o₁ t₁ n c o t) f
    (subst (λ (m : ℕ). Peels size (reading (rule m size salt) (view c₁)) c₁ o₁ t₁ n c o t) e p))))

-- and the number of buckets looked at
pub looked_call : (size salt K : ℕ) (D : ℕ → Bucket) (c₀ : Columns) → Wide size c₀ → (k : ℕ) {c₁ : Columns} → k ≡ K → c₁ ≡ filled size D c₀
    → {l : ℕ} → l ≡ looked (rule k size salt) (view c₁) → l ≡ looked (rule K size salt) D
looked_call size salt K D c₀ w k {c₁} e f m =
    m ∙ ap₂ (λ (j : ℕ) (c : Columns). looked (rule j size salt) (view c)) e f
    ∙ looked_cong (rule K size salt) (view (filled size D c₀)) D (λ i h. view-filled_in size D c₀ i w h)

-- ---- what a call leaves

-- one of the two lists: cleared, and xs listed in it, the last first
record Lists (size : ℕ) (l₀ xs l : List ℕ) (n : ℕ) : Type 0 where
  room : size ≤ length l₀
  few : length xs ≤ size
  list : l ≡ over 0 (reverse xs) (listed_into size [] l₀)
  count : n ≡ length xs

module _ {size : ℕ} {l₀ xs l : List ℕ} {n : ℕ} (h : Lists size l₀ xs l n) where
  fit : length (reverse xs) ≤ size
  fit = omega (arith, length-reverse xs)

  list_length : length l ≡ length l₀
  list_length =
      let e = listed-length size [] l₀ (omega arith) h.room in
      ap length h.list ∙ over-length 0 (listed_into size [] l₀) (reverse xs) (omega (arith, fit)) ∙ e

  list-within : n ≤ length l
  list-within = omega (arith, list_length)

  list-cleared : listed_into size [] l ≡ listed_into size [] l₀
  list-cleared = ap (listed_into size []) h.list ∙ listed-cleared size (reverse xs) l₀ fit h.room

  list-listed : l ≡ listed_into size (reverse xs) l₀
  list-listed = h.list ∙ listed-over size (reverse xs) l₀ fit h.room

  list-taken : take n l ≡ reverse xs
  list-taken = ap₂ {C = List ℕ} take (h.count ∙ sym (length-reverse xs)) h.list ∙ listed-taken size (reverse xs) l₀ fit h.room

module _ {size salt : ℕ} {tb : List ℕ} {c₀ : Columns} {o₀ t₀ : List ℕ} (r : Ready size salt tb c₀ o₀ t₀) {q : Outcome}
    {ended : Option Lengths} {c : Columns} {o t : List ℕ} (p : Peels size q c₀ (listed_into size [] o₀) (listed_into size [] t₀) ended c o t) where
  ours-some : Lists size o₀ (ours_of p.some) o p.ours-some
  ours-some = record {
    room = r.ours-room;
    few = omega (arith, ours-few p.some, p.few);
    list = p.listed-some.ours;
    count = p.listed-some.ours-count;
  }

  theirs-some : Lists size t₀ (theirs_of p.some) t p.theirs-some
  theirs-some = record {
    room = r.theirs-room;
    few = omega (arith, theirs-few p.some, p.few);
    list = p.listed-some.theirs;
    count = p.listed-some.theirs-count;
  }

  columns-wide : Wide size c
  columns-wide = rw p.kept (wide-filled size size p.rest c₀ r.received.wide)

  -- what clearing asks
  pub clear-again : Wide size c × (size ≤ length o) × (size ≤ length t)
  clear-again = (columns-wide, omega (arith, list_length ours-some, r.ours-room), omega (arith, list_length theirs-some, r.theirs-room))

  -- and what it leaves
  cleared : {l n : ℕ} → l ≡ n → {c' : Columns} {o' t' : List ℕ} → c' ≡ filled size (λ i. 𝟎) c → o' ≡ listed_into size [] o → t' ≡ listed_into size [] t
      → answered (answer 6 0 0 0 l) c' o' t' ≡ read_with False size q n c₀ o₀ t₀
  unfolding read_with
  cleared m x y z =
      let u = x ∙ ap (filled size (λ i. 𝟎)) p.kept ∙ filled-filled size p.rest (λ i. 𝟎) c₀ r.received.wide in
      λ k. answered (answer 6 0 0 0 (m k)) (u k) ((y ∙ list-cleared ours-some) k) ((z ∙ list-cleared theirs-some) k)

  -- a peeling that is not in order
  pub read_none : {l n : ℕ} → l ≡ n → ended ≡ None → {c' : Columns} {o' t' : List ℕ} → c' ≡ filled size (λ i. 𝟎) c → o' ≡ listed_into size [] o → t' ≡ listed_into size [] t
      → answered (answer 6 0 0 0 l) c' o' t' ≡ read_with (verdict (filter_rule size salt) (ids_of first_eight tb) q) size q n c₀ o₀ t₀
  unfolding verdict
  read_none {l} {n} m e x y z =
      cleared m x y z
      ∙ ap (λ (f : Bool). read_with (verdict_by f (all_zero q.rest size) (agrees (ids_of first_eight tb) q.listed)) size q n c₀ o₀ t₀)
      (sym (ap is_some e) ∙ p.fine_is)

  -- a peeling in order, which listed so many
  module _ {a : Lengths} (e : ended ≡ Some a) where
    ours-all : Lists size o₀ (ours_of q.listed) o a.ours
    ours-all = let l = p.listed_is a e in record {
      room = r.ours-room;
      few = omega (arith, p.listed_few a e, l.ours-count);
      list = l.ours;
      count = l.ours-count;
    }

    theirs-all : Lists size t₀ (theirs_of q.listed) t a.theirs
    theirs-all = let l = p.listed_is a e in record {
      room = r.theirs-room;
      few = omega (arith, p.listed_few a e, l.theirs-count);
      list = l.theirs;
      count = l.theirs-count;
    }

    -- what judging asks
    pub judge_ready : (is_table first_eight tb ≡ true) × Wide size c × (a.ours ≤ length o) × (a.theirs ≤ length t)
    judge_ready = (r.received.table, columns-wide, list-within ours-all, list-within theirs-all)

    fine_is : is_some ended ≡ true
    fine_is = ap is_some e

    zeros_are : all_zero (view c) size ≡ all_zero q.rest size
    zeros_are =
        ap (λ (d : Columns). all_zero (view d) size) (p.rest_is fine_is)
        ∙ all_zero_cong (view (filled size q.rest c₀)) q.rest size (λ i h. view-filled_in size q.rest c₀ i r.received.wide h)

    agrees_are : (ids : List ℕ) → every true ids (take a.ours o) && every false ids (take a.theirs t) ≡ agrees ids q.listed
    agrees_are ids =
        ap₂ (λ (x y : List ℕ). every true ids x && every false ids y) (list-taken ours-all) (list-taken theirs-all)
        ∙ ap₂ ◌&&◌ (every-reverse true ids (ours_of q.listed)) (every-reverse false ids (theirs_of q.listed))
        ∙ agrees_sides ids q.listed

    read-listed : (whole : ℕ) {l n : ℕ} → l ≡ n → answered (answer 0 whole a.ours a.theirs l) c o t ≡ read_as whole size q n c₀ o₀ t₀
    read-listed whole m = λ k. answered (answer 0 whole (ours-all.count k) (theirs-all.count k) (m k)) (p.rest_is fine_is k)
        (list-listed ours-all k) (list-listed theirs-all k)

    -- by the verdict that the code comes to, and the number that it has
    module _ {l n : ℕ} (m : l ≡ n) {v : Verdict} (j : v ≡ verdict_by true (all_zero (view c) size)
        (every true (ids_of first_eight tb) (take a.ours o) && every false (ids_of first_eight tb) (take a.theirs t))) where
      -- it is the definition's
      verdict_is : v ≡ verdict (filter_rule size salt) (ids_of first_eight tb) q
      unfolding verdict
      verdict_is =
          j ∙ ap₂ (verdict_by true) zeros_are (agrees_are (ids_of first_eight tb))
          ∙ ap (λ (f : Bool). verdict_by f (all_zero q.rest size) (agrees (ids_of first_eight tb) q.listed)) (sym fine_is ∙ p.fine_is)

      -- what the definition makes of it
      abbrev Told : Verdict → Read
      Told u = read_with u size q n c₀ o₀ t₀

      told : (u : Verdict) → v ≡ u → Told u ≡ Told (verdict (filter_rule size salt) (ids_of first_eight tb) q)
      told u h = ap Told (sym h ∙ verdict_is)

      pub read-complete : v ≡ Complete → answered (answer 0 1 a.ours a.theirs l) c o t ≡ Told (verdict (filter_rule size salt) (ids_of first_eight tb) q)
      unfolding read_with
      read-complete h = read-listed 1 m ∙ told Complete h

      pub read-stuck : v ≡ Stuck → answered (answer 0 0 a.ours a.theirs l) c o t ≡ Told (verdict (filter_rule size salt) (ids_of first_eight tb) q)
      unfolding read_with
      read-stuck h = read-listed 0 m ∙ told Stuck h

      pub read_false_lem : v ≡ False → {c' : Columns} {o' t' : List ℕ} → c' ≡ filled size (λ i. 𝟎) c → o' ≡ listed_into size [] o → t' ≡ listed_into size [] t
          → answered (answer 6 0 0 0 l) c' o' t' ≡ Told (verdict (filter_rule size salt) (ids_of first_eight tb) q)
      read_false_lem h x y z = cleared m x y z ∙ told False h

-- ---- the call as a whole

-- what the test of room says, as clearing asks it
pub clear_ready : (size : ℕ) (c : Columns) (o th : List ℕ) → has_room size c && (leb size (length o) && leb size (length th)) ≡ true
    → Wide size c × (size ≤ length o) × (size ≤ length th)
clear_ready size c o th h =
    let r = (and-eq-true_iff (has_room size c) (leb size (length o) && leb size (length th))).0 h in
    let l = (and-eq-true_iff (leb size (length o)) (leb size (length th))).0 r.1 in
    (wide_of size c r.0, leb-true _ _ l.0, leb-true _ _ l.1)

-- what the three tests of a reading say
pub record Granted (size salt : ℕ) (t : List ℕ) (c : Columns) (o th : List ℕ) : Type 0 where
  pub formed : is_table first_eight t && are_counts size c.counts ≡ true
  pub ranged : in_range size salt ≡ true
  pub roomy : has_room size c && (leb size (length o) && leb size (length th)) ≡ true

module _ {size salt : ℕ} {t : List ℕ} {c : Columns} {o th : List ℕ} (g : Granted size salt t c o th) where
  pub read-ends : read_by (ids_of first_eight t) size salt c o th ≡ read_call first_eight size salt t c o th
  unfolding read_call read_refusal
  read-ends = rw (g.formed, g.ranged, g.roomy)

  pub read_ready : Ready size salt t c o th
  read_ready =
      let f = (and-eq-true_iff (is_table first_eight t) (are_counts size c.counts)).0 g.formed in
      let r = clear_ready size c o th g.roomy in
      record { received = record { table = f.0; range = g.ranged; counts = f.1; wide = r.0 }; ours-room = r.1; theirs-room = r.2 }
