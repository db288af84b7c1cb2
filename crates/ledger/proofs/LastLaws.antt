-- A slice that completes a filter is read: in a session that has its form and its rooms filter's refusals 1 to 3 do not stop the reading.
-- Assumes nothing.
use mathlib.Core.Path.{◌≡◌, refl, sym, ap, subst, ◌∙◌}
use mathlib.Core.Bool.{Bool, true, false, ◌&&◌, ◌||◌, cond, false≢true}
use mathlib.Core.List.{List, [], ◌∷◌, ◌++◌, map}
use Prim.Native.Nat.{ℕ, suc, ◌+◌, ◌^◌, ◌≤◌}
use native.Mathlib.Nat.{lt_of_lt_of_le}
use native.Mathlib.Omega.{arith}
use lib.Dec.{eqb, ltb, leb}
use lib.IntN.{ℤ, pos}
use lib.ListN.{length, take, length-map}
use lib.Pow.{pow_mono}
use borrow.Author.Tests.{eqb-true, leb-true, le-leb, lt-ltb}
use Rattle.bucket.specs.Digits.{Below}
use Rattle.bucket.specs.Lists.{over}
use Rattle.bucket.proofs.OverLaws.{over-length, over-front}
use Rattle.bucket.proofs.TestLaws.{and_holds}
use Rattle.std.specs.Prelude.{None}
use Rattle.filter.specs.Calls.{in_range, is_count, all_counts, are_counts, has_room, read_refusal}
use Rattle.filter.specs.Steps.{Wide}
use Rattle.filter.specs.Table.{is_table}
use Rattle.filter.proofs.FilledLaws.{wide_of}
use Rattle.message.specs.Layout.{GoodSlice, slice, in_slice, IBF, IBF_LAST}
use Rattle.message.specs.Laying.{laid}
use Rattle.message.proofs.ReadLaws.{both}
use Rattle.ledger.specs.Grid.{EXPECTING_LAST, is_last}
use Rattle.ledger.specs.Session.{Session, «in», placed}
use Rattle.filter.proofs.SetLaws.{and_l, and_r}
use Rattle.ledger.proofs.FaultLaws.{Ranges, ranges}
use Rattle.ledger.proofs.ReadingLaws.{granted}

-- ---- counts

counts-append : (a b : List ℤ) → all_counts a ≡ true → all_counts b ≡ true → all_counts (a ++ b) ≡ true
unfolding all_counts
counts-append [] b e f = f
counts-append (z ∷ a) b e f = let r = both (is_count z) (all_counts a) e in and_holds r.0 (counts-append a b r.1 f)

counts-laid : (w : ℕ) (xs : List ℕ) → w ≤ 32 → Below w xs → all_counts (map pos xs) ≡ true
unfolding all_counts
counts-laid w [] h b = refl
counts-laid w (x ∷ xs) h b =
    and_holds (lt-ltb x (2 ^ 32) (lt_of_lt_of_le (b 0) (pow_mono {i = w} {j = 32} h))) (counts-laid w xs h (λ i. b (suc i)))

-- ---- the slice

last_ends : (size offset : ℕ) → is_last size offset ≡ true → offset + in_slice size offset ≡ size
last_ends size offset e = eqb-true (offset + in_slice size offset) size (go (eqb (offset + in_slice size offset) size) e)
  where
    go : (b : Bool) → eqb (cond b IBF_LAST IBF) IBF_LAST ≡ true → b ≡ true
    go true k = refl
    go false k = absurd (false≢true k)

widths : (size offset salt width : ℕ) {ids hashes counts : List ℕ} → GoodSlice size offset salt width ids hashes counts → width ≤ 32
widths size offset salt width g =
    leb-true width 32
    (and_r (leb 37 size && leb size 4096 && (eqb offset 0 || eqb offset 2520) && ltb offset size && ltb salt 64 && leb 1 width) (leb width 32) g.ranges)

-- "Slices come in offset order without a gap": what stands before the slice has been judged
before-judged : (s : Session) (size offset salt width : ℕ) → placed s size offset salt width ≡ true
    → («in» s EXPECTING_LAST ≡ true → are_counts 2520 s.columns.counts ≡ true) → are_counts offset s.columns.counts ≡ true
unfolding placed
before-judged s size offset salt width e counted = go («in» s EXPECTING_LAST) refl e
  where
    go : (b : Bool) → «in» s EXPECTING_LAST ≡ b
        → cond b (eqb offset 2520 && (eqb size s.size && (eqb salt s.salt && eqb width s.width))) (eqb offset 0) ≡ true
        → are_counts offset s.columns.counts ≡ true
    go true q k = subst (λ (n : ℕ). are_counts n s.columns.counts ≡ true) (sym (eqb-true offset 2520 (and_l (eqb offset 2520) _ k))) (counted q)
    go false q k = subst (λ (n : ℕ). are_counts n s.columns.counts ≡ true) (sym (eqb-true offset 0 k)) (unfold all_counts in refl)

module _ (derive : ℕ → ℕ) (bytes : List ℕ) (s : Session) (size offset salt width : ℕ) (ids hashes counts : List ℕ) where
  pub last_granted : is_table derive bytes ≡ true → GoodSlice size offset salt width ids hashes counts → is_last size offset ≡ true
      → placed s size offset salt width ≡ true → («in» s EXPECTING_LAST ≡ true → are_counts 2520 s.columns.counts ≡ true)
      → has_room 4096 s.columns ≡ true → leb 4096 (length s.ours) ≡ true → leb 4096 (length s.theirs) ≡ true
      → read_refusal derive size salt bytes (laid (slice size offset salt width ids hashes counts) s.columns) s.ours s.theirs ≡ None
  unfolding laid in_range has_room
  last_granted table g last order counted room o th =
      granted derive size salt bytes (laid (slice size offset salt width ids hashes counts) s.columns) s.ours s.theirs table
      judged (and_holds (le-leb 37 size r.low) (and_holds (le-leb size 4096 r.high) (lt-ltb salt 64 r.small)))
      (and_holds (wide ids s.columns.idsums g.n-ids w.idsums)
      (and_holds (wide hashes s.columns.hashsums g.n-hashes w.hashsums) (wide (map pos counts) s.columns.counts long w.counts)))
      (le-leb size (length s.ours) (omega (arith, r.high, leb-true 4096 (length s.ours) o)))
      (le-leb size (length s.theirs) (omega (arith, r.high, leb-true 4096 (length s.theirs) th)))
    where
      r : Ranges size salt
      r = ranges size offset salt width g.ranges

      w : Wide 4096 s.columns
      w = wide_of 4096 s.columns room

      end : offset + in_slice size offset ≡ size
      end = last_ends size offset last

      long : length (map pos counts) ≡ in_slice size offset
      long = length-map counts pos ∙ g.n-counts

      wide : {A : Type 0} (xs l : List A) → length xs ≡ in_slice size offset → 4096 ≤ length l → leb size (length (over offset xs l)) ≡ true
      wide xs l n h = le-leb size (length (over offset xs l)) (omega (arith, r.high, end, over-length offset l xs (omega (arith, r.high, end))))

      judged : are_counts size (over offset (map pos counts) s.columns.counts) ≡ true
      judged =
          ap all_counts
          (ap (λ (n : ℕ). take n (over offset (map pos counts) s.columns.counts)) (sym end ∙ ap (λ (n : ℕ). offset + n) (sym long))
          ∙ over-front offset s.columns.counts (map pos counts) (omega (arith, r.high, end, w.counts)))
          ∙ counts-append (take offset s.columns.counts) (map pos counts) (before-judged s size offset salt width order counted)
          (counts-laid width counts (widths size offset salt width g) g.counts-fit)
