-- Where demand 3's assumption holds and there is no stopping set (document 02: a knot), the premise of Req 14 on the listing follows.
--
--   laid-whole     a filter's slices, laid, are its columns in the first size places
--   premise        the first filter reads as complete, and its lists are the true difference
--
-- Assumes nothing.
use mathlib.Core.Path.{◌≡◌, refl, sym, ap, ap₂, ◌∙◌, subst}
use mathlib.Core.Bool.{Bool, true, false, not, cond, false≢true}
use mathlib.Core.List.Memᴰ
use mathlib.Core.List.{List, [], ◌∷◌, ◌++◌, map, Memᴰ}
use Prim.Native.Nat.{ℕ, suc, ◌+◌, ◌-◌, ◌^◌, ◌≤◌, ◌<◌}
use native.Mathlib.Omega.{arith}
use borrow.Author.Tests.{ltb-true, ltb-false, le-leb}
use lib.Dec.{ltb, leb}
use lib.IntN.{ℤ, pos, negsuc}
use lib.ListN.{length, get_or, take, drop, length-take, length-map}
use lib.ListN.{get_or-append}
use lib.Seq.{length-take-le, get_or-take, get_or-drop, take-add}
use Rattle.bucket.specs.Bucket.{bucket}
use Rattle.bucket.specs.Columns.{Columns, columns, view}
use Rattle.bucket.specs.Lists.{elem, over, part}
use Rattle.bucket.specs.Packing.{number, numbers}
use Rattle.bucket.proofs.OverLaws.{open_over, over-length, over-front, over-over, part_length}
use Rattle.bucket.proofs.TestLaws.{and_holds}
use Rattle.filter.specs.Calls.{Read, in_range, is_count, all_counts, are_counts, has_room}
use Rattle.filter.specs.Filter.{Item, ours, theirs, filter_rule, filter_of}
use Rattle.filter.specs.Lists.{minus}
use Rattle.filter.specs.Steps.{Wide}
use Rattle.filter.specs.Stopping.{differing, Clear, StoppingSet, Exactly}
use Rattle.filter.specs.Table.{hashes_of, is_table}
use Rattle.filter.proofs.Demand3.{reads_exactly}
use Rattle.filter.proofs.FilledLaws.{wide_of, view-filled_in}
use Rattle.filter.proofs.FormLaws.{are_counts-at}
use Rattle.filter.proofs.PartLaws.{range-sound}
use Rattle.filter.proofs.SelectLaws.{elem_mem}
use Rattle.message.specs.Layout.{Content, in_slice}
use Rattle.message.specs.Laying.{laid}
use Rattle.message.specs.Writing.{slices_of, slice_at, width_for}
use Rattle.ledger.specs.Session.{Session, is_complete, ours_in, theirs_in, own_filter, ids_of, reading_at}
use Rattle.filter.proofs.SetLaws.{◌∈◌, clash, not_in, and_l, in_∖, ∖-in}
use Rattle.filter.proofs.ListLaws.{distinct-front, distinct-back}
use Rattle.ledger.proofs.BookLaws.{table_of_lem, table-ids}
use Rattle.ledger.proofs.HeldLaws.{ids_in_lem}
use Rattle.ledger.proofs.ReadingLaws.{granted, reading-granted}
use Rattle.ledger.proofs.FilterRoomLaws.{blank, blank-wide, own, own-counts, own_room}
use Rattle.message.proofs.RoundLaws.{hashes-below}
use Rattle.ledger.proofs.BelowLaws.{fit_of}
use Rattle.union.proofs.Ends.{Rules}
use Rattle.union.proofs.Difference.{Lists}
use Rattle.union.proofs.FirstFilter.{laid_all, read_all}

-- ---- slices laid

module _ {A : Type 0} (size : ℕ) (xs l : List A) (hx : size ≤ length xs) (hl : size ≤ length l) where
  one_piece : size ≤ 2520 → over 0 (part 0 (in_slice size 0) xs) l ≡ over 0 (take size xs) l
  one_piece h = ap (λ (n : ℕ). over 0 (take n xs) l) (let e : in_slice size 0 ≡ size = omega arith in e)

  two_pieces : 2520 < size → size ≤ 4096
      → over 2520 (part 2520 (in_slice size 2520) xs) (over 0 (part 0 (in_slice size 0) xs) l) ≡ over 0 (take size xs) l
  two_pieces h k =
      let a : List A = take 2520 xs in
      let b : List A = take (size - 2520) (drop 2520 xs) in
      let na : length a ≡ 2520 = length-take-le 2520 xs (omega arith) in
      let nb : length b ≡ size - 2520 = part_length 2520 xs (size - 2520) (omega arith) in
      let both : a ++ b ≡ take size xs = sym (take-add 2520 (size - 2520) xs) ∙ ap (λ (n : ℕ). take n xs)
      (let e : 2520 + (size - 2520) ≡ size = omega arith in e) in
      let e0 : in_slice size 0 ≡ 2520 = omega arith in
      let e1 : in_slice size 2520 ≡ size - 2520 = omega arith in
      ap₂ (λ (n m : ℕ). over 2520 (take n (drop 2520 xs)) (over 0 (take m xs) l)) e1 e0
      ∙ ap (λ (n : ℕ). over n b (over 0 a l)) (let e : 2520 ≡ 0 + length a = omega (arith, na) in e)
      ∙ over-over 0 l a b (omega (arith, na, nb))
      ∙ ap (λ (y : List A). over 0 y l) both

  first-size : length (take size xs) ≡ size
  first-size = length-take-le size xs hx

  laid-at : (d : A) (i : ℕ) → i < size → get_or (over 0 (take size xs) l) i d ≡ get_or xs i d
  laid-at d i h =
      ap (λ (y : List A). get_or y i d) (open_over 0 (take size xs) l)
      ∙ get_or-append (take size xs) (drop (0 + length (take size xs)) l) d i (omega (arith, first-size)) ∙ get_or-take size xs i d h

  laid-size : length (over 0 (take size xs) l) ≡ length l
  laid-size = over-length 0 l (take size xs) (omega (arith, first-size))

  laid-first : take size (over 0 (take size xs) l) ≡ take size xs
  laid-first =
      ap (λ (n : ℕ). take n (over 0 (take size xs) l)) (let e : size ≡ 0 + length (take size xs) = omega (arith, first-size) in e)
      ∙ over-front 0 l (take size xs) (omega arith)

-- counts in range, packed as numbers and back
pos_number : (z : ℤ) → is_count z ≡ true → pos (number z) ≡ z
pos_number (pos n) e = refl
pos_number (negsuc n) e = absurd (false≢true e)

pos_back : (ys : List ℤ) → ((i : ℕ) → i < length ys → is_count (get_or ys i (pos 0)) ≡ true) → map pos (numbers ys) ≡ ys
pos_back [] h = refl
pos_back (z ∷ ys) h = ap₂ {C = List ℤ} ◌∷◌ (pos_number z (h 0 (omega arith))) (pos_back ys (λ i k. h (suc i) (omega arith)))

part-counts : (size at n : ℕ) (cs : List ℤ) → are_counts size cs ≡ true → size ≤ length cs → at + n ≤ size → map pos (numbers (part at n cs)) ≡ part at n cs
part-counts size at n cs e w h =
    pos_back (take n (drop at cs)) (λ i k.
    let l : i < n = omega (arith, k, length-take n (drop at cs)) in
    ap is_count (get_or-take n (drop at cs) i (pos 0) l ∙ get_or-drop at cs i (pos 0)) ∙ are_counts-at size cs (at + i) e (omega arith) (omega arith))

module _ (size salt width : ℕ) (made c : Columns) (most : size ≤ 4096) (counts : are_counts size made.counts ≡ true) (wm : Wide size made)
    (wc : Wide size c) where
  pub whole : Columns
  whole =
      columns (over 0 (take size made.idsums) c.idsums) (over 0 (take size made.hashsums) c.hashsums)
      (over 0 (take size made.counts) c.counts)

  same-columns : {is is' hs hs' : List ℕ} {cs cs' : List ℤ} → is ≡ is' → hs ≡ hs' → cs ≡ cs' → columns is hs cs ≡ columns is' hs' cs'
  same-columns p q r = λ k. columns (p k) (q k) (r k)

  pub laid-whole : laid_all (slices_of size salt width made) c ≡ whole
  unfolding laid_all slices_of laid whole
  laid-whole = go (ltb 2520 size) refl
    where
      first : Content
      first = slice_at size 0 salt width made

      second : Content
      second = slice_at size 2520 salt width made

      go : (b : Bool) → ltb 2520 size ≡ b → laid_all (first ∷ cond b (second ∷ []) []) c ≡ whole
      go false e =
          let l = ltb-false 2520 size e in
          same-columns (one_piece size made.idsums c.idsums wm.idsums wc.idsums l)
          (one_piece size made.hashsums c.hashsums wm.hashsums wc.hashsums l)
          (ap (λ (y : List ℤ). over 0 y c.counts) (part-counts size 0 (in_slice size 0) made.counts counts wm.counts (omega arith))
          ∙ one_piece size made.counts c.counts wm.counts wc.counts l)
      go true e =
          let l = ltb-true 2520 size e in
          same-columns (two_pieces size made.idsums c.idsums wm.idsums wc.idsums l most)
          (two_pieces size made.hashsums c.hashsums wm.hashsums wc.hashsums l most)
          (ap₂ (λ (y z : List ℤ). over 2520 y (over 0 z c.counts))
          (part-counts size 2520 (in_slice size 2520) made.counts counts wm.counts (omega arith))
          (part-counts size 0 (in_slice size 0) made.counts counts wm.counts (omega arith))
          ∙ two_pieces size made.counts c.counts wm.counts wc.counts l most)

  whole-view : (i : ℕ) → i < size → view whole i ≡ view made i
  unfolding view whole
  whole-view i h =
      let p = laid-at size made.idsums c.idsums wm.idsums wc.idsums 0 i h in
      let q = laid-at size made.hashsums c.hashsums wm.hashsums wc.hashsums 0 i h in
      let r = laid-at size made.counts c.counts wm.counts wc.counts (pos 0) i h in
      λ k. bucket (p k) (q k) (r k)

  whole-counts : are_counts size whole.counts ≡ true
  unfolding whole
  whole-counts = ap all_counts (laid-first size made.counts c.counts wm.counts wc.counts) ∙ counts

  whole_room : has_room size whole ≡ true
  unfolding has_room whole
  whole_room =
      let p : size ≤ length whole.idsums = omega (arith, laid-size size made.idsums c.idsums wm.idsums wc.idsums, wc.idsums) in
      let q : size ≤ length whole.hashsums = omega (arith, laid-size size made.hashsums c.hashsums wm.hashsums wc.hashsums, wc.hashsums) in
      let r : size ≤ length whole.counts = omega (arith, laid-size size made.counts c.counts wm.counts wc.counts, wc.counts) in
      and_holds (le-leb _ _ p) (and_holds (le-leb _ _ q) (le-leb _ _ r))

-- ---- the true difference

in_minus : (t s : List ℕ) (a : ℕ) → a ∈ t → (a ∈ s → ⊥) → a ∈ minus t s
in_minus t s a m n = in_∖ a t s m (not_in a s n)

minus_in : (t s : List ℕ) (a : ℕ) → a ∈ minus t s → (a ∈ t) × (a ∈ s → ⊥)
minus_in t s a m = let (p, q) = ∖-in a t s m in (p, λ k. clash k q)

-- no stopping set: nothing is in the core
module _ (size salt : ℕ) (t s o th : List ℕ) (b : Bool) (ex : Exactly (filter_rule size salt) t s o th b)
    (free : (q : Item → Bool) → StoppingSet (filter_rule size salt) (differing t s) q → ⊥) where
  out : (x : Item) → Memᴰ x (differing t s) → ex.core x ≡ false
  out x m = go (ex.core x) refl
    where
      go : (v : Bool) → ex.core x ≡ v → v ≡ false
      go true e = absurd (free ex.core (record { someone = x; belongs = m; taken = e; closed = ex.is_core.closed }))
      go false e = refl

  differing-ours : (a : ℕ) → a ∈ minus t s → Memᴰ (ours a) (differing t s)
  unfolding differing
  differing-ours a m = Memᴰ.append_left (map theirs (minus s t)) (Memᴰ.map ours (elem_mem a (minus t s) m))

  differing-theirs : (a : ℕ) → a ∈ minus s t → Memᴰ (theirs a) (differing t s)
  unfolding differing
  differing-theirs a m = Memᴰ.append_right (map ours (minus t s)) (Memᴰ.map theirs (elem_mem a (minus s t) m))

  ours-listed : (a : ℕ) → a ∈ minus t s → a ∈ o
  ours-listed a m = ex.ours_are a ∙ and_holds m (ap not (out (ours a) (differing-ours a m)))

  theirs-listed : (a : ℕ) → a ∈ minus s t → a ∈ th
  theirs-listed a m = ex.theirs_are a ∙ and_holds m (ap not (out (theirs a) (differing-theirs a m)))

-- ---- the premise

module _ (R : Rules) (bound : (h : ℕ) → h < 2 ^ 512 → R.id_of h < 2 ^ 64) (a b : List ℕ) (ta : is_table R.id_of a ≡ true) (tb : is_table R.id_of b ≡ true)
    (sb : Session) (size salt : ℕ) (range : in_range size salt ≡ true) (room : has_room size sb.columns ≡ true)
    (roomO : leb size (length sb.ours) ≡ true) (roomT : leb size (length sb.theirs) ≡ true) where
  abbrev A : List ℕ
  A = hashes_of a

  abbrev B : List ℕ
  B = hashes_of b

  abbrev ids_a : List ℕ
  ids_a = ids_of R.id_of A

  abbrev ids_b : List ℕ
  ids_b = ids_of R.id_of B

  abbrev r : Read
  r = read_all R B sb size salt (own_filter ids_a size salt)

  most : size ≤ 4096
  most = (range-sound size salt range).most

  few : length ids_a ≤ 4096
  unfolding ids_of
  few = omega (arith, length-map A R.id_of, (table_of_lem R.id_of a ta).few)

  abbrev made : Columns
  made = own ids_a size salt few range

  small : (x : ℕ) → x ∈ ids_a → x < 2 ^ 64
  small x e = let (h, m, q) = ids_in_lem R.id_of x A e in subst (λ (n : ℕ). n < 2 ^ 64) q (bound h (fit_of 512 A (hashes-below a) h m))

  -- a reading of columns that hold the filter of A's IDs
  exact_at : (c : Columns) → are_counts size c.counts ≡ true → has_room size c ≡ true
      → ((i : ℕ) → i < size → view c i ≡ filter_of (filter_rule size salt) ids_a i)
      → Clear (filter_rule size salt) (differing ids_b ids_a)
      → let x = reading_at R.id_of B size salt c sb.ours sb.theirs in Exactly (filter_rule size salt) ids_b ids_a (ours_in x) (theirs_in x) (is_complete x)
  unfolding ids_of Rattle.filter.specs.Table.ids_of
  exact_at c k h v clear =
      let g = granted R.id_of size salt b c sb.ours sb.theirs tb k range h roomO roomT in
      subst (λ (x : Read). Exactly (filter_rule size salt) ids_b ids_a (ours_in x) (theirs_in x) (is_complete x))
      (sym (reading-granted R.id_of size salt b c sb.ours sb.theirs g))
      (reads_exactly R.id_of bound size salt b c sb.ours sb.theirs g ids_a (table-ids R.id_of A (table_of_lem R.id_of a ta)) small v clear).1

  made_wide : Wide size made
  made_wide = wide_of size made (own_room ids_a size salt few range)

  made-fit : are_counts size made.counts ≡ true
  made-fit = own-counts ids_a size salt few range

  abbrev laid_down : Columns
  laid_down = whole size salt (width_for size made.counts) made sb.columns most made-fit made_wide (wide_of size sb.columns room)

  own-laid : laid_all (own_filter ids_a size salt) sb.columns ≡ laid_down
  unfolding own_filter
  own-laid = laid-whole size salt (width_for size made.counts) made sb.columns most made-fit made_wide (wide_of size sb.columns room)

  exact : Clear (filter_rule size salt) (differing ids_b ids_a) → Exactly (filter_rule size salt) ids_b ids_a (ours_in r) (theirs_in r) (is_complete r)
  exact clear =
      subst
      (λ (c : Columns). let x = reading_at R.id_of B size salt c sb.ours sb.theirs in
      Exactly (filter_rule size salt) ids_b ids_a (ours_in x) (theirs_in x) (is_complete x)) (sym own-laid)
      (exact_at laid_down (whole-counts size salt (width_for size made.counts) made sb.columns most made-fit made_wide (wide_of size sb.columns room))
      (whole_room size salt (width_for size made.counts) made sb.columns most made-fit made_wide (wide_of size sb.columns room))
      (λ i h. whole-view size salt (width_for size made.counts) made sb.columns most made-fit made_wide (wide_of size sb.columns room) i h
      ∙ view-filled_in size (filter_of (filter_rule size salt) ids_a) blank i (blank-wide size most) h)
      clear)

  pub premise : Clear (filter_rule size salt) (differing ids_b ids_a) → ((q : Item → Bool) → StoppingSet (filter_rule size salt) (differing ids_b ids_a) q → ⊥)
      → (is_complete r ≡ true) × Lists R B A (ours_in r) × Lists R A B (theirs_in r)
  premise clear free = (
    ex.whole free,
    record {
      apart = distinct-front (ours_in r) (theirs_in r) ex.once;
      has = λ x e. (minus_in ids_b ids_a x (from-ours x e)).0;
      lacks = λ x e. (minus_in ids_b ids_a x (from-ours x e)).1;
      whole = λ x p q. ours-listed size salt ids_b ids_a (ours_in r) (theirs_in r) (is_complete r) ex free x (in_minus ids_b ids_a x p q);
    },
    record {
      apart = distinct-back (ours_in r) (theirs_in r) ex.once;
      has = λ x e. (minus_in ids_a ids_b x (from-theirs x e)).0;
      lacks = λ x e. (minus_in ids_a ids_b x (from-theirs x e)).1;
      whole = λ x p q. theirs-listed size salt ids_b ids_a (ours_in r) (theirs_in r) (is_complete r) ex free x (in_minus ids_a ids_b x p q);
    },
  )
    where
      ex : Exactly (filter_rule size salt) ids_b ids_a (ours_in r) (theirs_in r) (is_complete r)
      ex = exact clear

      from-ours : (x : ℕ) → x ∈ ours_in r → x ∈ minus ids_b ids_a
      from-ours x e = and_l (elem x (minus ids_b ids_a)) _ (sym (ex.ours_are x) ∙ e)

      from-theirs : (x : ℕ) → x ∈ theirs_in r → x ∈ minus ids_a ids_b
      from-theirs x e = and_l (elem x (minus ids_a ids_b)) _ (sym (ex.theirs_are x) ∙ e)
