-- How long a reading can take (document 02, Req 11): "Show that it is at most size × (size + 1)". At most size looks lead to a peel, and one more
-- ends the reading; each goes over at most size buckets. `answers_most` says it of the call, for every input. Assumes nothing.
use mathlib.Core.Path.{◌≡◌, refl, ap, ◌∙◌}
use mathlib.Core.Bool.{Bool, true, false, cond}
use mathlib.Core.List.{List, [], ◌∷◌}
use mathlib.Core.Logic.{◌⊎◌, inl, inr}
use Prim.Native.Nat.{ℕ, zero, suc, ◌+◌, ◌*◌, ◌≤◌}
use native.Mathlib.Nat.{mul-le-mul}
use native.Mathlib.Omega.{arith}
use lib.Dec.{eqb}
use borrow.Author.Tests.{eqb-true, eqb-false}
use Rattle.bucket.specs.Bucket.{Bucket}
use Rattle.bucket.specs.Columns.{Columns}
use Rattle.std.specs.Prelude.{None}
use Rattle.filter.specs.declared.answers.Verdict.{Verdict}
use Rattle.filter.specs.declared.answers.Verdict.TheVariants.{Complete, Stuck, False}
use Rattle.filter.specs.Answers.{number_of}
use Rattle.filter.specs.Table.{ids_of}
use Rattle.filter.specs.Filter.{Item, Rule, filter_rule}
use Rattle.filter.specs.Peeling.{Next, nothing, again, take, remove, next, looking, looked}
use Rattle.filter.specs.Calls.{read_refusal, Read, unread, read_with, subtracted, outcome_of, verdict_of, looked_of, read_by, read_call}
use Rattle.filter.proofs.GrantedLaws.{number_zero, granted-most, granted-read}
use Rattle.filter.proofs.PeelLaws.{looks, reach-most}

module _ (R : Rule) where
  looking-most : (k : ℕ) (y : Next) (acc : List Item) (f : ℕ → Bucket) → looking R k y acc f ≤ R.size * (k + 1)
  unfolding looking
  looking-most zero y acc f = omega (arith, reach-most (looks R f) 0 R.size)
  looking-most (suc k) nothing acc f = omega (arith, reach-most (looks R f) 0 R.size)
  looking-most (suc k) again acc f = omega (arith, reach-most (looks R f) 0 R.size)
  looking-most (suc k) (take x) acc f =
      omega (arith, reach-most (looks R f) 0 R.size, looking-most k (next R (x ∷ acc) (remove R x f)) (x ∷ acc) (remove R x f))

  pub looked-most : (f : ℕ → Bucket) → looked R f ≤ R.size * (R.size + 1)
  unfolding looked
  looked-most f = looking-most R.size (next R [] f) [] f

-- "which is 16,781,312 for 4,096"
pub most_of_all : (size : ℕ) → size ≤ 4096 → size * (size + 1) ≤ 16781312
most_of_all size h = let k : size + 1 ≤ 4097 = omega arith in mul-le-mul h k

-- ---- the call

module _ (derive : ℕ → ℕ) (size salt : ℕ) (t : List ℕ) (c : Columns) (o th : List ℕ) where
  -- the number that it answers
  abbrev pub answers_looked : ℕ
  answers_looked = (read_call derive size salt t c o th).answer.looked

  -- "Return with each reading .. the number of buckets looked at": whatever the verdict, so "A reading refused with 6 returns its number too"
  pub each-reading : read_refusal derive size salt t c o th ≡ None → answers_looked ≡ looked_of (ids_of derive t) size salt c
  unfolding read_with
  each-reading g = ap (λ (r : Read). r.answer.looked) (granted-read derive size salt t c o th g) ∙ go (verdict_of (ids_of derive t) size salt c)
    where
      go : (v : Verdict) → (read_with v size (outcome_of (ids_of derive t) size salt c) (looked_of (ids_of derive t) size salt c) c o th).answer.looked
          ≡ looked_of (ids_of derive t) size salt c
      go Complete = refl
      go Stuck = refl
      go False = refl

  abbrev number : ℕ
  number = number_of (read_refusal derive size salt t c o th)

  -- 0 where refusal 1, 3 or 2 leaves nothing read
  pub nothing_read : (read_refusal derive size salt t c o th ≡ None → ⊥) → answers_looked ≡ 0
  unfolding read_call
  nothing_read ne = go (eqb number 0) refl
    where
      go : (b : Bool) → eqb number 0 ≡ b → (cond b (read_by (ids_of derive t) size salt c o th) (unread number c o th)).answer.looked ≡ 0
      go true q = absurd (ne (number_zero (read_refusal derive size salt t c o th) (eqb-true number 0 q)))
      go false q = refl

  either : (read_refusal derive size salt t c o th ≡ None) ⊎ (answers_looked ≡ 0)
  either = go (eqb number 0) refl
    where
      go : (b : Bool) → eqb number 0 ≡ b → (read_refusal derive size salt t c o th ≡ None) ⊎ (answers_looked ≡ 0)
      go true q = inl (number_zero (read_refusal derive size salt t c o th) (eqb-true number 0 q))
      go false q = inr (nothing_read (λ g. eqb-false number 0 q (ap number_of g)))

  -- "at most size × (size + 1)", whatever the input
  pub answers_most : answers_looked ≤ size * (size + 1)
  answers_most = go either
    where
      go : (read_refusal derive size salt t c o th ≡ None) ⊎ (answers_looked ≡ 0) → answers_looked ≤ size * (size + 1)
      go (inl g) = omega (arith, each-reading g, looked-most (filter_rule size salt) (subtracted (ids_of derive t) size salt c))
      go (inr e) = omega (arith, e)

  -- no call answers more than 16,781,312, since none reads a larger size
  pub any_answers_most : answers_looked ≤ 16781312
  any_answers_most = go either
    where
      go : (read_refusal derive size salt t c o th ≡ None) ⊎ (answers_looked ≡ 0) → answers_looked ≤ 16781312
      go (inl g) = omega (arith, answers_most, most_of_all size (granted-most derive size salt t c o th g))
      go (inr e) = omega (arith, e)
