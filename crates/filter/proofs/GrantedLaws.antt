-- A reading call that is not refused: its tests hold, it answers as its verdict says, and its two lists are what was listed, last first turned round.
-- Assumes nothing.
use mathlib.Core.Path.{◌≡◌, refl, sym, ap, ◌∙◌}
use mathlib.Core.Bool.{Bool, true, false, ◌&&◌, cond, and-eq-true_iff}
use mathlib.Core.List.{List, [], ◌∷◌, reverse, append_assoc}
use Prim.Native.Nat.{ℕ, ◌+◌, ◌-◌, ◌≤◌}
use lib.Dec.{eqb, leb}
use lib.ListN.{length, take, drop, replicate, length-reverse}
use lib.Seq.{take_at}
use borrow.Author.Tests.{eqb-true, leb-true}
use Rattle.std.specs.Prelude.{Option, None, Some, Result, Ok, Err, IsOk}
use Rattle.std.specs.Result.{result_err}
use Rattle.std.proofs.Common.{rules}
use Rattle.bucket.specs.Columns.{Columns}
use Rattle.bucket.specs.Lists.{over, pad}
use Rattle.filter.specs.declared.answers.Refusal.{Refusal}
use Rattle.filter.specs.declared.answers.Refusal.TheVariants.{Form, Room, Range, Malformed, OutOfTurn, FalseReading, Breach, Checksum, Swaps, Limit}
use Rattle.filter.specs.Answers.{number_of, first_of}
use Rattle.filter.specs.Table.{ids_of, is_table}
use Rattle.filter.specs.Calls.{in_range, are_counts, has_room, listed_into, read_refusal, unread, read_by, read_call}

-- the refusal of a number
abbrev refusal_at : ℕ → Option Refusal
refusal_at n =
    cond (eqb n 1) (Some Form)
    (cond (eqb n 2) (Some Room)
    (cond (eqb n 3) (Some Range)
    (cond (eqb n 4) (Some Malformed)
    (cond (eqb n 5) (Some OutOfTurn)
    (cond (eqb n 6) (Some FalseReading)
    (cond (eqb n 7) (Some Breach)
    (cond (eqb n 8) (Some Checksum)
    (cond (eqb n 9) (Some Swaps)
    (cond (eqb n 10) (Some Limit) None)))))))))

refusal_back : (r : Option Refusal) → refusal_at (number_of r) ≡ r
refusal_back None = refl
refusal_back (Some Form) = refl
refusal_back (Some Room) = refl
refusal_back (Some Range) = refl
refusal_back (Some Malformed) = refl
refusal_back (Some OutOfTurn) = refl
refusal_back (Some FalseReading) = refl
refusal_back (Some Breach) = refl
refusal_back (Some Checksum) = refl
refusal_back (Some Swaps) = refl
refusal_back (Some Limit) = refl

-- no two refusals have one number, and only no refusal has the number 0
pub number_same : {r s : Option Refusal} → number_of r ≡ number_of s → r ≡ s
number_same {r} {s} e = sym (refusal_back r) ∙ ap refusal_at e ∙ refusal_back s

pub number_zero : (r : Option Refusal) → number_of r ≡ 0 → r ≡ None
number_zero r e = number_same e

-- a call that answers nothing else, and is not refused
pub granted_is_ok : (r : Result Unit Refusal) → number_of (result_err r) ≡ 0 → IsOk r
granted_is_ok (Ok x) e = search rules
granted_is_ok (Err why) e = let none : Some why ≡ None = number_zero (Some why) e in cc

tests_hold : (a b c : Bool) → first_of ((Form, a) ∷ (Range, b) ∷ (Room, c) ∷ []) ≡ None → (a ≡ true) × (b ≡ true) × (c ≡ true)
tests_hold true true true e = (refl, refl, refl)
tests_hold true true false e = (cc, cc, cc)
tests_hold true false c e = (cc, cc, cc)
tests_hold false b c e = (cc, cc, cc)

module _ (derive : ℕ → ℕ) (size salt : ℕ) (t : List ℕ) (c : Columns) (o th : List ℕ) (granted : read_refusal derive size salt t c o th ≡ None) where
  tests : (is_table derive t && are_counts size c.counts ≡ true) × (in_range size salt ≡ true)
      × (has_room size c && (leb size (length o) && leb size (length th)) ≡ true)
  unfolding read_refusal
  tests =
      tests_hold (is_table derive t && are_counts size c.counts) (in_range size salt)
      (has_room size c && (leb size (length o) && leb size (length th))) granted

  pub granted-table : is_table derive t ≡ true
  granted-table = ((and-eq-true_iff (is_table derive t) (are_counts size c.counts)).0 tests.0).0

  pub granted-size : 37 ≤ size
  unfolding in_range
  granted-size = leb-true 37 size ((and-eq-true_iff (leb 37 size) _).0 tests.1).0

  pub granted-most : size ≤ 4096
  unfolding in_range
  granted-most = leb-true size 4096 ((and-eq-true_iff (leb size 4096) _).0 ((and-eq-true_iff (leb 37 size) _).0 tests.1).1).0

  pub granted-read : read_call derive size salt t c o th
      ≡ read_by (ids_of derive t) size salt c o th
  unfolding read_call
  granted-read =
      ap (λ (n : ℕ). cond (eqb n 0)
      (read_by (ids_of derive t) size salt c o th)
      (unread n c o th)) (ap number_of granted)

-- what is answered complete was granted
pub complete-granted : (derive : ℕ → ℕ) (size salt : ℕ) (t : List ℕ) (c : Columns) (o th : List ℕ)
    → (read_call derive size salt t c o th).answer.complete ≡ 1 → read_refusal derive size salt t c o th ≡ None
unfolding read_call
complete-granted derive size salt t c o th e = go (eqb n 0) refl e
  where
    n : ℕ
    n = number_of (read_refusal derive size salt t c o th)

    go : (b : Bool) → eqb n 0 ≡ b
        → (cond b (read_by (ids_of derive t) size salt c o th) (unread n c o th)).answer.complete ≡ 1
        → read_refusal derive size salt t c o th ≡ None
    go true q k = number_zero (read_refusal derive size salt t c o th) (eqb-true n 0 q)
    go false q k = cc

-- the list of a call, up to its length
pub listed_back : (n : ℕ) (l o : List ℕ) → take (length l) (listed_into n (reverse l) o) ≡ reverse l
unfolding listed_into over pad
listed_back n l o =
    ap (take (length l)) (append_assoc (reverse l) (replicate (n - length (reverse l)) 0) (drop (0 + length (pad n (reverse l))) o))
    ∙ take_at (reverse l) _ (length l) (length-reverse l)
