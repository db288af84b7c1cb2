-- The laws of an estimate: one estimator subtracted from another bucket by bucket, the difference's counts are small, and what the strata's
-- readings say and leave goes by their own buckets alone, so that columns that hold the difference are read as it is. Assumes nothing.
use mathlib.Core.Path.{◌≡◌, ap, ◌∙◌}
use mathlib.Core.Bool.{true, ◌&&◌, and-eq-true_iff}
use Prim.Native.Nat.{ℕ, ◌+◌, ◌*◌, ◌^◌, ◌≤◌, ◌<◌}
use native.Mathlib.Omega.{arith}
use lib.Bits.{bit_xor}
use lib.IntN.{ℤ, pos, neg_ℤ, nat_abs, ◌+ℤ◌, ◌-ℤ◌}
use lib.ListN.{get_or, set}
use mir.Syntax.{w64}
use mir.Val.{SFits, to_z, of_z}
use mir.ValLaws.{to_z-of_z}
use Rattle.bucket.specs.Bucket.{Bucket, ◌⊕◌, neg}
use Rattle.bucket.specs.Columns.{Columns, columns, view, place}
use Rattle.bucket.proofs.SmallLaws.{small-fits}
use Rattle.filter.specs.declared.answers.Estimate.{Estimate}
use Rattle.filter.specs.Answers.{made_answer}
use Rattle.filter.specs.Calls.{are_counts, has_room, filled}
use Rattle.filter.specs.Estimator.{less, readings, estimate_of, remaining, estimate_refusal, estimated, estimate_call}
use Rattle.filter.specs.Steps.{Wide, Small}
use Rattle.filter.proofs.FilledLaws.{filled_next, filled_is_lengths, filled-filled, filled_cong, view-filled_in, view-filled-out, wide-same, wide_of}
use Rattle.filter.proofs.FormLaws.{counts-small}
use Rattle.filter.proofs.NegatedLaws.{abs_neg}
use Rattle.filter.proofs.SpreadLaws.{abs_sum, abs_small, small-more}
use Rattle.filter.proofs.StrataLaws.{Agree, estimate_cong, remaining_cong}
use Rattle.filter.proofs.PartLaws.{small-filled}

-- ---- one count minus another

abs_less : (a b : ℤ) → nat_abs (a +ℤ neg_ℤ b) ≤ nat_abs a + nat_abs b
abs_less a b = omega (arith, abs_sum a (neg_ℤ b), abs_neg b)

module _ (a b : ℤ) (ha : nat_abs a < 2 ^ 33) (hb : nat_abs b < 2 ^ 33) where
  left-fits : SFits w64 a
  left-fits = small-fits a (abs_small a (omega arith))

  right-fits : SFits w64 b
  right-fits = small-fits b (abs_small b (omega arith))

  less-fits : SFits w64 (a +ℤ neg_ℤ b)
  less-fits = small-fits (a +ℤ neg_ℤ b) (abs_small (a +ℤ neg_ℤ b) (omega (arith, abs_less a b)))

  -- what the code's difference must fit, and what it gives
  pub count-less-fits : SFits w64 (to_z w64 (of_z w64 a) -ℤ to_z w64 (of_z w64 b))
  count-less-fits = rw (to_z-of_z w64 a left-fits, to_z-of_z w64 b right-fits) less-fits

  pub count_less : to_z w64 (of_z w64 (to_z w64 (of_z w64 a) -ℤ to_z w64 (of_z w64 b))) ≡ a +ℤ neg_ℤ b
  count_less = rw (to_z-of_z w64 a left-fits, to_z-of_z w64 b right-fits, to_z-of_z w64 (a +ℤ neg_ℤ b) less-fits)

-- ---- a loop that subtracts one bucket after another: the first i buckets are done, d from what c₀ was

module _ {n : ℕ} {c₀ d c : Columns} {i : ℕ} (done : c ≡ filled i (less (view c₀) (view d)) c₀) (h : i < n) (s : Small n (2 ^ 33) c₀) (t : Small n (2 ^ 33) d) where
  -- bucket i still holds what it held
  old : view c i ≡ view c₀ i
  old = ap (λ (x : Columns). view x i) done ∙ view-filled-out i (less (view c₀) (view d)) c₀ i (omega arith)

  old_count : get_or c.counts i (pos 0) ≡ get_or c₀.counts i (pos 0)
  unfolding view
  old_count = ap (λ (b : Bucket). b.count) old

  here_small : nat_abs (get_or c.counts i (pos 0)) < 2 ^ 33
  here_small = rw old_count (s.all i h)

  pub subtracting_fits : SFits w64 (to_z w64 (of_z w64 (get_or c.counts i (pos 0))) -ℤ to_z w64 (of_z w64 (get_or d.counts i (pos 0))))
  subtracting_fits = count-less-fits (get_or c.counts i (pos 0)) (get_or d.counts i (pos 0)) here_small (t.all i h)

  pub subtracting_next : columns (set c.idsums i (bit_xor (get_or c.idsums i 0) (get_or d.idsums i 0)))
      (set c.hashsums i (bit_xor (get_or c.hashsums i 0) (get_or d.hashsums i 0)))
      (set c.counts i (to_z w64 (of_z w64 (to_z w64 (of_z w64 (get_or c.counts i (pos 0))) -ℤ to_z w64 (of_z w64 (get_or d.counts i (pos 0)))))))
      ≡ filled (i + 1) (less (view c₀) (view d)) c₀
  unfolding place view ◌⊕◌ neg
  subtracting_next =
      ap (λ (z : ℤ). columns (set c.idsums i (bit_xor (get_or c.idsums i 0) (get_or d.idsums i 0)))
      (set c.hashsums i (bit_xor (get_or c.hashsums i 0) (get_or d.hashsums i 0))) (set c.counts i z))
      (count_less (get_or c.counts i (pos 0)) (get_or d.counts i (pos 0)) here_small (t.all i h))
      ∙ ap (λ (b : Bucket). place c i (b ⊕ neg (view d i))) old
      ∙ ap (λ (x : Columns). place x i (less (view c₀) (view d) i)) done
      ∙ filled_next i (less (view c₀) (view d)) c₀

-- the difference's counts
pub small-less : (n : ℕ) (a b : Columns) {c : Columns} → Wide n a → Small n (2 ^ 33) a → Small n (2 ^ 33) b
    → c ≡ filled n (less (view a) (view b)) a → Small n (2 ^ 34) c
unfolding view ◌⊕◌ neg
small-less n a b w s t e = rw e (small-filled n (2 ^ 34) (less (view a) (view b)) a w each)
  where
    each : (i : ℕ) → i < n → nat_abs (less (view a) (view b) i).count < 2 ^ 34
    each i h =
        let x = s.all i h in
        let y = t.all i h in
        omega (arith, abs_less (get_or a.counts i (pos 0)) (get_or b.counts i (pos 0)))

-- ---- columns that hold D are read as D is

module _ (salt : ℕ) where
  module _ (n : ℕ) (D : ℕ → Bucket) (a : Columns) (w : Wide (79 * n) a) {c : Columns} (e : c ≡ filled (79 * n) D a) where
    agree : Agree (79 * n) (view c) D
    agree i h = ap (λ (d : Columns). view d i) e ∙ view-filled_in (79 * n) D a i w h

    pub estimate-held : (total : ℕ) → estimate_of total (readings salt n (view c)) ≡ estimate_of total (readings salt n D)
    estimate-held total = estimate_cong salt n (view c) D total agree

    pub remaining-held : filled (79 * n) (remaining salt n (view c)) c ≡ filled (79 * n) (remaining salt n D) a
    remaining-held =
        filled_cong (79 * n) (remaining salt n (view c)) (remaining salt n D) c (remaining_cong salt n (79 * n) (view c) D (omega arith) agree)
        ∙ ap (filled (79 * n) (remaining salt n D)) e
        ∙ filled-filled (79 * n) D (remaining salt n D) a w

-- ---- the call as a whole

module _ (a b : Columns) (x : are_counts 2528 a.counts && are_counts 2528 b.counts ≡ true) (y : has_room 2528 a && has_room 2528 b ≡ true) where
  -- what subtracting asks
  pub estimate_ready : Wide 2528 a × Wide 2528 b × Small 2528 (2 ^ 33) a × Small 2528 (2 ^ 33) b
  estimate_ready =
      let f = (and-eq-true_iff (are_counts 2528 a.counts) (are_counts 2528 b.counts)).0 x in
      let r = (and-eq-true_iff (has_room 2528 a) (has_room 2528 b)).0 y in
      let v = wide_of 2528 a r.0 in
      let w = wide_of 2528 b r.1 in (
        v,
        w,
        small-more 2528 (2 ^ 32) (2 ^ 33) a (omega arith) (counts-small 2528 a v f.0),
        small-more 2528 (2 ^ 32) (2 ^ 33) b (omega arith) (counts-small 2528 b w f.1),
      )

  module _ {c : Columns} (e : c ≡ filled 2528 (less (view a) (view b)) a) where
    -- what reading asks of the difference
    pub less-wide : Wide 2528 c
    less-wide = wide-same 2528 c a (filled_is_lengths 2528 (less (view a) (view b)) a c e) estimate_ready.0

    pub less-small : Small 2528 (2 ^ 34) c
    less-small = small-less 2528 a b estimate_ready.0 estimate_ready.2 estimate_ready.3 e

    -- what reading it leaves is what the call does
    pub estimate-ends : (salt : ℕ) {r : Estimate} {c' : Columns} → r ≡ estimate_of 0 (readings salt 32 (view c))
        → c' ≡ filled 2528 (remaining salt 32 (view c)) c
        → estimated (made_answer r) c' ≡ estimate_call salt a b
    unfolding estimate_call estimate_refusal
    estimate-ends salt p q =
        rw (x, y)
        (λ k. estimated (made_answer ((p ∙ estimate-held salt 32 (less (view a) (view b)) a estimate_ready.0 e 0) k))
        ((q ∙ remaining-held salt 32 (less (view a) (view b)) a estimate_ready.0 e) k))
