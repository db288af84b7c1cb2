-- The supposition of demand 3's second half is not empty: differences that it holds of, with a stopping set and without one,
-- by running its test over every part and every bucket; and how their readings end. Assumes nothing.
use mathlib.Core.Path.{◌≡◌, refl, subst}
use mathlib.Core.Bool.{Bool, true, not}
use mathlib.Core.List.{List, [], ◌∷◌, Memᴰ}
use mathlib.Core.List.Memᴰ.{head}
use Prim.Native.Nat.{ℕ}
use lib.Dec.{eqb}
use Rattle.bucket.specs.Bucket.{◌⊕◌, neg, 𝟎, is_zero}
use Rattle.bucket.specs.Crc.{crc_of, crc32, feed, steps}
use Rattle.bucket.specs.Digits.{groups}
use Rattle.bucket.specs.Lists.{elem}
use Rattle.bucket.specs.Places.{draw, candidates, firsts, places_by}
use Rattle.bucket.specs.Salt.{rot, salted, unsalted}
use Rattle.bucket.proofs.PlaceLaws.{place-count_37}
use Rattle.filter.specs.declared.answers.Verdict.TheVariants.{Complete, Stuck}
use Rattle.filter.specs.Lists.{select, minus}
use Rattle.filter.specs.Filter.{Item, ours, id_of, ours_of, theirs_of, Rule, filter_rule, touches, cell, put, sum_at, load, filter_of, difference}
use Rattle.filter.specs.Peeling.{first, all_zero, agrees, is_pure, look, remove, next, run, reading, verdict}
use Rattle.filter.specs.Numbers.{worked}
use Rattle.filter.specs.Stopping.{differing, Clear, StoppingSet}
use Rattle.filter.proofs.ClearLaws.{
  parts,
  all_below,
  clear_at,
  clear_all,
  clear_of,
  closed_at,
  closed_of,
  open_all,
  no_stopping_of,
  known,
  Right,
  noted,
  noted-same,
}

-- ---- document 01's worked example, whose reading stands in specs/Numbers: what remains is a stopping set

pub worked-clear : Clear worked (differing (1 ∷ 2 ∷ 3 ∷ []) [])
worked-clear = clear_of worked (differing (1 ∷ 2 ∷ 3 ∷ []) []) test
  where
    test : clear_all worked (parts (differing (1 ∷ 2 ∷ 3 ∷ []) [])) ≡ true
    test =
        unfold differing minus select parts clear_all all_below clear_at is_pure load sum_at put touches cell ◌⊕◌ 𝟎 elem
        is_zero in refl

pub worked-core : StoppingSet worked (differing (1 ∷ 2 ∷ 3 ∷ []) []) (λ x. not (eqb (id_of x) 3))
worked-core = record {
  someone = ours 1;
  belongs = unfold differing minus select elem in head refl;
  taken = refl;
  closed = closed_of worked (differing (1 ∷ 2 ∷ 3 ∷ []) []) (λ x. not (eqb (id_of x) 3)) test;
}
  where
    test : all_below (closed_at worked (select (λ x. not (eqb (id_of x) 3)) (differing (1 ∷ 2 ∷ 3 ∷ []) []))) worked.size ≡ true
    test = unfold differing minus select all_below closed_at load touches elem in refl

-- ---- real places: 37 buckets at salt 0, where the IDs 1 and 2887 have the same places, and 11 shares one of them

real_places : List (ℕ × List ℕ)
real_places = (1, 14 ∷ 0 ∷ 8 ∷ []) ∷ (11, 14 ∷ 23 ∷ 18 ∷ []) ∷ (2887, 14 ∷ 0 ∷ 8 ∷ []) ∷ []

real_checks : List (ℕ × ℕ)
real_checks = (1, 0x1225efff) ∷ (11, 0xf2f006e1) ∷ (2887, 0x6e6ed291) ∷ []

real : Rule
real = noted (filter_rule 37 0) real_places real_checks

real_same : real ≡ filter_rule 37 0
unfolding real real_places real_checks
real_same = noted-same (filter_rule 37 0) real_places real_checks places-right checks_right
  where
    places-right : Right real_places (filter_rule 37 0).places
    places-right = rw place-count_37 (unfold places_by firsts candidates draw crc_of crc32 feed steps groups elem in (refl, (refl, (refl, tt))))

    checks_right : Right real_checks crc_of
    checks_right = unfold crc_of crc32 feed steps groups in (refl, (refl, (refl, tt)))

-- an ID of ours and one of theirs that share bucket 14: no stopping set, complete

free : List Item
free = differing (1 ∷ []) (11 ∷ [])

pub free_clear : Clear (filter_rule 37 0) (differing (1 ∷ []) (11 ∷ []))
unfolding free
free_clear = subst (λ (R : Rule). Clear R free) real_same (clear_of real free test)
  where
    test : clear_all real (parts free) ≡ true
    test =
        unfold real noted known real_places real_checks differing minus select parts clear_all all_below clear_at is_pure load sum_at put
        touches cell ◌⊕◌ 𝟎 elem is_zero salted rot in refl

pub free_of_stopping : (q : Item → Bool) → StoppingSet (filter_rule 37 0) (differing (1 ∷ []) (11 ∷ [])) q → ⊥
unfolding free
free_of_stopping = subst (λ (R : Rule). (q : Item → Bool) → StoppingSet R free q → ⊥) real_same (no_stopping_of real free test)
  where
    test : open_all real (parts free) ≡ true
    test =
        unfold real noted known real_places real_checks differing minus select parts open_all all_below closed_at load touches elem
        salted rot in refl

pub free-complete :
    let R = filter_rule 37 0 in
    verdict R (1 ∷ []) (reading R (difference R (1 ∷ []) (filter_of R (11 ∷ [])))) ≡ Complete
free-complete = subst (λ (R : Rule). verdict R (1 ∷ []) (reading R (difference R (1 ∷ []) (filter_of R (11 ∷ [])))) ≡ Complete) real_same test
  where
    test : verdict real (1 ∷ []) (reading real (difference real (1 ∷ []) (filter_of real (11 ∷ [])))) ≡ Complete
    test =
        unfold real noted known real_places real_checks reading run next first look is_pure difference filter_of sum_at put touches
        cell remove neg ◌⊕◌ 𝟎 elem verdict all_zero is_zero agrees salted unsalted rot in refl

-- three of ours, two of them with the same places: those two are a stopping set, and the third is listed

twins : List Item
twins = differing (1 ∷ 11 ∷ 2887 ∷ []) []

pub twins_clear : Clear (filter_rule 37 0) (differing (1 ∷ 11 ∷ 2887 ∷ []) [])
unfolding twins
twins_clear = subst (λ (R : Rule). Clear R twins) real_same (clear_of real twins test)
  where
    test : clear_all real (parts twins) ≡ true
    test =
        unfold real noted known real_places real_checks differing minus select parts clear_all all_below clear_at is_pure load sum_at put
        touches cell ◌⊕◌ 𝟎 elem is_zero salted rot in refl

pub twins_stop : StoppingSet (filter_rule 37 0) (differing (1 ∷ 11 ∷ 2887 ∷ []) []) (λ x. not (eqb (id_of x) 11))
unfolding twins
twins_stop = subst (λ (R : Rule). StoppingSet R twins (λ x. not (eqb (id_of x) 11))) real_same
    (record { someone = ours 1; belongs = there; taken = refl; closed = closed_of real twins (λ x. not (eqb (id_of x) 11)) test })
  where
    there : Memᴰ (ours 1) twins
    there = unfold differing minus select elem in head refl

    test : all_below (closed_at real (select (λ x. not (eqb (id_of x) 11)) twins)) real.size ≡ true
    test =
        unfold real noted known real_places real_checks differing minus select all_below closed_at load touches elem salted rot in refl

pub twins-stuck :
    let R = filter_rule 37 0 in
    let r = reading R (difference R (1 ∷ 11 ∷ 2887 ∷ []) (filter_of R [])) in
    (ours_of r.listed ≡ 11 ∷ []) × (theirs_of r.listed ≡ []) × (verdict R (1 ∷ 11 ∷ 2887 ∷ []) r ≡ Stuck)
twins-stuck = subst Ends real_same test
  where
    Ends : Rule → Type 0
    Ends R =
        let r = reading R (difference R (1 ∷ 11 ∷ 2887 ∷ []) (filter_of R [])) in
        (ours_of r.listed ≡ 11 ∷ []) × (theirs_of r.listed ≡ []) × (verdict R (1 ∷ 11 ∷ 2887 ∷ []) r ≡ Stuck)

    test : Ends real
    test =
        unfold real noted known real_places real_checks reading run next first look is_pure difference filter_of sum_at put touches
        cell remove neg ◌⊕◌ 𝟎 elem ours_of theirs_of verdict all_zero is_zero agrees salted unsalted rot in (refl, refl, refl)
