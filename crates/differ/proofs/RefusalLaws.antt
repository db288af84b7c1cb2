-- Behind the tests on the tables and the size, the calls of `filter` refuse nothing but a false reading: `shown` prints a listing or refusal 6.
-- Assumes nothing.
use mathlib.Core.Path.{◌≡◌, refl, sym, ap, subst, ◌∙◌}
use mathlib.Core.Bool.{true, ◌&&◌, and-eq-true_iff}
use mathlib.Core.List.{List}
use mathlib.Core.Logic.{◌⊎◌, inl, inr}
use Prim.Native.Nat.{ℕ, ◌≤◌}
use native.Mathlib.Omega.{arith}
use lib.Dec.{leb}
use lib.ListN.{replicate}
use borrow.Author.Tests.{leb-true, le-leb}
use Rattle.bucket.specs.Bucket.{Bucket}
use Rattle.bucket.specs.Columns.{Columns}
use Rattle.bucket.proofs.TestLaws.{and_holds}
use Rattle.std.specs.Prelude.{None, Result, IsOk}
use Rattle.std.specs.Result.{result_err}
use Rattle.filter.specs.declared.answers.Refusal.{Refusal}
use Rattle.filter.specs.Answers.{number_of}
use Rattle.filter.specs.declared.answers.Verdict.{Verdict}
use Rattle.filter.specs.declared.answers.Verdict.TheVariants.{Complete, Stuck, False}
use Rattle.filter.specs.Filter.{filter_rule, filter_of}
use Rattle.filter.specs.Table.{first_eight, ids_of, is_table}
use Rattle.filter.specs.Peeling.{Outcome}
use Rattle.filter.specs.Calls.{Build, built, Read, in_range, are_counts, has_room, filled, build_refusal, build_call, read_with, read_refusal, outcome_of, verdict_of}
use Rattle.filter.specs.Steps.{Wide}
use Rattle.filter.proofs.FilledLaws.{wide_of, wide-filled}
use Rattle.filter.proofs.GrantedLaws.{granted_is_ok, granted-read}
use Rattle.filter.proofs.MadeLaws.{made-counts}
use Rattle.filter.proofs.TableLaws.{ids-length, table-count}
use Rattle.differ.specs.Report.{blank, received, our_reading}

refusal_with : (v : Verdict) (size : ℕ) (r : Outcome) (l : ℕ) (c : Columns) (o th : List ℕ) → ((read_with v size r l c o th).answer.refusal ≡ 0) ⊎ ((read_with v size r l c o th).answer.refusal ≡ 6)
unfolding read_with
refusal_with Complete size r l c o th = inl refl
refusal_with Stuck size r l c o th = inl refl
refusal_with False size r l c o th = inr refl

-- the tests of the two calls
module _ (size : ℕ) (a b : List ℕ) (tables : is_table first_eight a && is_table first_eight b ≡ true) (range : leb 37 size && leb size 512 ≡ true) where
  small : size ≤ 512
  small = leb-true size 512 ((and-eq-true_iff (leb 37 size) (leb size 512)).0 range).1

  in_range_lem : in_range size 0 ≡ true
  unfolding in_range
  in_range_lem =
      and_holds ((and-eq-true_iff (leb 37 size) (leb size 512)).0 range).0 (and_holds (le-leb size 4096 (omega (arith, small))) refl)

  has_room_lem : has_room size blank ≡ true
  unfolding has_room
  has_room_lem = and_holds (le-leb size 512 small) (and_holds (le-leb size 512 small) (le-leb size 512 small))

  build_granted : build_refusal first_eight size 0 b blank ≡ None
  unfolding build_refusal
  build_granted = rw (((and-eq-true_iff (is_table first_eight a) (is_table first_eight b)).0 tables).1, in_range_lem, has_room_lem)

  -- so building is not refused
  pub build_goes : (r : Result Unit Refusal) {c : Columns} → built (number_of (result_err r)) c ≡ build_call first_eight size 0 b blank → IsOk r
  unfolding build_call
  build_goes r e = granted_is_ok r (ap (λ (x : Build). x.refusal) e ∙ ap number_of build_granted)

  made : ℕ → Bucket
  made = filter_of (filter_rule size 0) (ids_of first_eight b)

  received-filled : received size b ≡ filled size made blank
  unfolding received build_call build_refusal made
  received-filled = rw (((and-eq-true_iff (is_table first_eight a) (is_table first_eight b)).0 tables).1, in_range_lem, has_room_lem)

  received-wide : Wide size (received size b)
  received-wide = rw received-filled (wide-filled size size made blank (wide_of size blank has_room_lem))

  received-counts : are_counts size (received size b).counts ≡ true
  unfolding made
  received-counts =
      let table = ((and-eq-true_iff (is_table first_eight a) (is_table first_eight b)).0 tables).1 in
      rw received-filled
      (made-counts (filter_rule size 0) (ids_of first_eight b) (omega (arith, ids-length first_eight b, table-count b table)) size blank
      (wide_of size blank has_room_lem))

  granted : read_refusal first_eight size 0 a (received size b) (replicate 512 0) (replicate 512 0) ≡ None
  unfolding read_refusal has_room
  granted =
      let w = received-wide in
      let columns-room = and_holds (le-leb _ _ w.idsums) (and_holds (le-leb _ _ w.hashsums) (le-leb _ _ w.counts)) in
      rw (
        and_holds ((and-eq-true_iff (is_table first_eight a) (is_table first_eight b)).0 tables).0 received-counts,
        in_range_lem,
        and_holds columns-room (and_holds (le-leb size 512 small) (le-leb size 512 small)),
      )

  pub result-refusal : ((our_reading size a b).answer.refusal ≡ 0) ⊎ ((our_reading size a b).answer.refusal ≡ 6)
  unfolding our_reading
  result-refusal =
      let c = received size b in
      let zeros : List ℕ = replicate 512 0 in
      subst (λ (q : Read). (q.answer.refusal ≡ 0) ⊎ (q.answer.refusal ≡ 6)) (sym (granted-read first_eight size 0 a c zeros zeros granted))
      (refusal_with (verdict_of (ids_of first_eight a) size 0 c) size (outcome_of (ids_of first_eight a) size 0 c) _ c zeros zeros)
