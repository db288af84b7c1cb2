-- How the readings of strata are counted: one stratum lent alone, and all of them from the highest down, with the invariant of that loop.
-- Assumes nothing.
use mathlib.Core.Path.{◌≡◌, refl, sym, ap, ap₂, ◌∙◌, subst}
use mathlib.Core.Bool.{Bool, true, false, cond}
use mathlib.Core.List.{List}
use Prim.Native.Nat.{ℕ, suc, ◌+◌, ◌-◌, ◌*◌, ◌^◌, ◌≤◌, ◌<◌}
use native.Mathlib.Omega.{arith}
use lib.IntN.{ℤ, nat_abs}
use lib.ListN.{length}
use Rattle.std.specs.Prelude.{Option, Some, None, is_some}
use Rattle.bucket.specs.Bucket.{Bucket, 𝟎}
use Rattle.bucket.specs.Columns.{Columns, view}
use Rattle.bucket.proofs.ColumnLaws.{SameLengths}
use Rattle.filter.specs.declared.answers.Estimate.{Estimate}
use Rattle.filter.specs.declared.answers.Estimate.TheVariants.{Known}
use Rattle.filter.specs.declared.answers.Verdict.{Verdict}
use Rattle.filter.specs.declared.peeling.Lengths.{Lengths}
use Rattle.filter.specs.Peeling.{Outcome, all_zero, verdict_by, is_complete, reading}
use Rattle.filter.specs.Calls.{filled}
use Rattle.filter.specs.Estimator.{stratum_rule, stratum, strata_verdict, reading_at, readings, sampled, estimate_of, left_by, left_at, remaining}
use Rattle.filter.specs.Steps.{Wide, Small, Peels, counted}
use Rattle.filter.proofs.FilledLaws.{
  lengths_trans,
  filled_is_lengths,
  wide-same,
  view-filled_in,
  filled_cong,
  filled-filled,
  filled-view,
}
use Rattle.filter.proofs.PeelLaws.{all_zero_cong, listed-few}
use Rattle.filter.proofs.ListedLaws.{listed-count}
use Rattle.filter.proofs.StrataLaws.{with_stratum-out, view_with_stratum, estimate-step, estimate_cong}

-- ---- one stratum, lent alone

module _ {q : Outcome} {c₀ c : Columns} {o₀ t₀ : List ℕ} {r : Option Lengths} {o t : List ℕ} (p : Peels 79 q c₀ o₀ t₀ r c o t) (w : Wide 79 c₀) where
  -- a peeling that is not in order leaves a false stratum, which is then made zero
  pub part_false : {c' : Columns} → r ≡ None → c' ≡ filled 79 (λ i. 𝟎) c → (None ≡ counted q) × (c' ≡ filled 79 (left_by (strata_verdict q) q) c₀)
  part_false h e = (
    sym (ap (λ (f : Bool). cond (is_complete (verdict_by f (all_zero q.rest 79) true)) (Some (length q.listed)) None) bad),
    e ∙ ap (filled 79 (λ i. 𝟎)) p.kept ∙ filled-filled 79 p.rest (λ i. 𝟎) c₀ w
        ∙ filled_cong 79 (λ i. 𝟎) (left_by (strata_verdict q) q) c₀
        (λ i k. sym (ap (λ (f : Bool). left_by (verdict_by f (all_zero q.rest 79) true) q i) bad)),
  )
    where
      bad : q.fine ≡ false
      bad = sym p.fine_is ∙ ap is_some h

  -- one in order is complete where it left zeros, and otherwise stuck
  module _ {m : Lengths} (h : r ≡ Some m) {z : Bool} (e : z ≡ all_zero (view c) 79) where
    ok : is_some r ≡ true
    ok = ap is_some h

    verdict-fine : strata_verdict q ≡ verdict_by true z true
    verdict-fine =
        ap₂ (λ (f t : Bool). verdict_by f t true) (sym p.fine_is ∙ ok)
        (sym (e ∙ ap (λ (d : Columns). all_zero (view d) 79) (p.rest_is ok)
        ∙ all_zero_cong (view (filled 79 q.rest c₀)) q.rest 79 (λ i k. view-filled_in 79 q.rest c₀ i w k)))

    counted-fine : (x : Bool) → z ≡ x → counted q ≡ cond (is_complete (verdict_by true x true)) (Some (length q.listed)) None
    counted-fine x k = ap (λ (v : Verdict). cond (is_complete v) (Some (length q.listed)) None) (verdict-fine ∙ ap (λ (t : Bool). verdict_by true t true) k)

    pub part-stuck : z ≡ false → None ≡ counted q
    part-stuck k = sym (counted-fine false k)

    pub part-whole : z ≡ true → Some (m.ours + m.theirs) ≡ counted q
    part-whole k = ap Some (listed-count o₀ t₀ q.listed o t m.ours m.theirs (p.listed_is m h)) ∙ sym (counted-fine true k)

    -- what it leaves is what its reading leaves
    pub part_left : c ≡ filled 79 (left_by (strata_verdict q) q) c₀
    part_left =
        p.rest_is ok ∙ filled_cong 79 q.rest (left_by (strata_verdict q) q) c₀
        (λ i k. sym (ap (λ (v : Verdict). left_by v q i) verdict-fine ∙ rest i z))
      where
        rest : (i : ℕ) (t : Bool) → left_by (verdict_by true t true) q i ≡ q.rest i
        rest i true = refl
        rest i false = refl

-- ---- how a reading was counted says how it ended

module _ (r : Outcome) where
  lists : {n : ℕ} → Some n ≡ counted r → (is_complete (strata_verdict r) ≡ true) × (n ≡ length r.listed)
  lists {n} = by (is_complete (strata_verdict r))
    where
      by : (b : Bool) → Some n ≡ cond b (Some (length r.listed)) None → (b ≡ true) × (n ≡ length r.listed)
      by true e = (refl, cc)
      by false e = (cc, cc)

  fails : None ≡ counted r → is_complete (strata_verdict r) ≡ false
  fails = by (is_complete (strata_verdict r))
    where
      by : (b : Bool) → None ≡ cond b (Some (length r.listed)) None → b ≡ false
      by true e = cc
      by false e = refl

pub lists-few : (salt : ℕ) (f : ℕ → Bucket) {n : ℕ} → Some n ≡ counted (reading (stratum_rule salt) f) → n ≤ 79
lists-few salt f k = omega (arith, (lists (reading (stratum_rule salt) f) k).1, listed-few (stratum_rule salt) f)

-- ---- the invariant: strata n and above were read and are counted in the total

pub record Tally (salt : ℕ) (c₀ c : Columns) (total n : ℕ) : Type 0 where
  pub few : n ≤ 32
  pub wide : Wide 2528 c
  pub lengths : SameLengths c c₀
  pub small : Small (79 * n) (2 ^ 34) c
  pub bound : total ≤ 79 * (32 - n)
  pub estimate : estimate_of total (readings salt n (view c)) ≡ estimate_of 0 (readings salt 32 (view c₀))
  pub left : filled 2528 (remaining salt n (view c)) c ≡ filled 2528 (remaining salt 32 (view c₀)) c₀

module _ (salt m : ℕ) (c c' : Columns) (h : m < 32) (w : Wide 2528 c) (e : c' ≡ filled 2528 (left_at salt m (view c)) c) where
  view-left : view c' ≡ left_at salt m (view c)
  view-left = view_with_stratum m (left_by (strata_verdict (reading_at salt m (view c))) (reading_at salt m (view c))) c c' h w e

  below_left : (i : ℕ) → i < 79 * m → view c' i ≡ view c i
  below_left i k =
      ap (λ (f : ℕ → Bucket). f i) view-left
      ∙ with_stratum-out m (left_by (strata_verdict (reading_at salt m (view c))) (reading_at salt m (view c))) (view c) i (λ x. omega (arith, k, x))

  next-estimate : (total listed : ℕ) → is_complete (strata_verdict (reading_at salt m (view c))) ≡ true
      → listed ≡ length (reading_at salt m (view c)).listed
      → estimate_of (total + listed) (readings salt m (view c')) ≡ estimate_of total (readings salt (suc m) (view c))
  next-estimate total listed v l =
      estimate_cong salt m (view c') (view c) (total + listed) below_left
      ∙ ap (λ (x : ℕ). estimate_of (total + x) (readings salt m (view c))) l
      ∙ sym (estimate-step salt (view c) m total true v)

  next-left : is_complete (strata_verdict (reading_at salt m (view c))) ≡ true
      → filled 2528 (remaining salt m (view c')) c' ≡ filled 2528 (remaining salt (suc m) (view c)) c
  unfolding remaining
  next-left v =
      let left = left_at salt m (view c) in
      ap₂ (λ (f : ℕ → Bucket) (d : Columns). filled 2528 (remaining salt m f) d) view-left e
      ∙ filled-filled 2528 left (remaining salt m left) c w
      ∙ ap (λ (b : Bool). filled 2528 (cond b (remaining salt m left) left) c) (sym v)

  next_small : Small (79 * suc m) (2 ^ 34) c → Small (79 * m) (2 ^ 34) c'
  unfolding view
  next_small s = record {
    all = λ i k. subst (λ (z : ℤ). nat_abs z < 2 ^ 34) (sym (ap (λ (b : Bucket). b.count) (below_left i k))) (s.all i (omega (arith, k)));
  }

module _ {salt : ℕ} {c₀ c : Columns} {total : ℕ} where
  module _ (m : ℕ) (c' : Columns) {n : ℕ} (t : Tally salt c₀ c total n) (p : n ≡ suc m)
      (e : c' ≡ filled 2528 (left_at salt m (view c)) c) where
    now_at : Tally salt c₀ c total (suc m)
    now_at = subst (Tally salt c₀ c total) p t

    -- stratum m is complete
    pub tally_next : {listed : ℕ} → Some listed ≡ counted (reading_at salt m (view c)) → Tally salt c₀ c' (total + listed) m
    tally_next {listed} k =
        let ended = lists (reading_at salt m (view c)) k in
        let in_range_lem : m < 32 = omega (arith, now_at.few) in
        let same = filled_is_lengths 2528 (left_at salt m (view c)) c c' e in record {
          few = omega (arith, in_range_lem);
          wide = wide-same 2528 c' c same t.wide;
          lengths = lengths_trans c' c c₀ same t.lengths;
          small = next_small salt m c c' in_range_lem t.wide e now_at.small;
          bound = omega (arith, now_at.bound, in_range_lem, lists-few salt (stratum m (view c)) k);
          estimate = next-estimate salt m c c' in_range_lem t.wide e total listed ended.0 ended.1 ∙ now_at.estimate;
          left = next-left salt m c c' in_range_lem t.wide e ended.0 ∙ now_at.left;
        }

    -- stratum m is not complete
    pub tally_stop : {r : Estimate} → None ≡ counted (reading_at salt m (view c)) → r ≡ sampled total m
        → (r ≡ estimate_of 0 (readings salt 32 (view c₀))) × (c' ≡ filled 2528 (remaining salt 32 (view c₀)) c₀)
    unfolding remaining
    tally_stop k s =
        let v = fails (reading_at salt m (view c)) k in (
          s ∙ sym (estimate-step salt (view c) m total false v) ∙ now_at.estimate,
          e ∙ ap (λ (b : Bool). filled 2528 (cond b (remaining salt m (left_at salt m (view c))) (left_at salt m (view c))) c) (sym v) ∙ now_at.left,
        )

  -- all are complete
  pub tally_end : {n : ℕ} → Tally salt c₀ c total n → n ≡ 0
      → (Known total ≡ estimate_of 0 (readings salt 32 (view c₀))) × (c ≡ filled 2528 (remaining salt 32 (view c₀)) c₀)
  unfolding readings estimate_of remaining
  tally_end t z = (
    ap (λ (m : ℕ). estimate_of total (readings salt m (view c))) (sym z) ∙ t.estimate,
    sym (filled-view 2528 c t.wide) ∙ ap (λ (m : ℕ). filled 2528 (remaining salt m (view c)) c) (sym z) ∙ t.left,
  )
