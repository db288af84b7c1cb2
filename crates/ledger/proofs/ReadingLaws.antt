-- The reading in a session is filter's, and what a complete one lists: held IDs as ours, IDs that are not held as theirs, each once.
-- Assumes nothing.
use mathlib.Core.Path.{◌≡◌, refl, sym, subst, ◌∙◌}
use mathlib.Core.Bool.{true, false≢true}
use mathlib.Core.List.{List, Memᴰ, reverse}
use Prim.Native.Nat.{ℕ}
use lib.Dec.{leb}
use lib.ListN.{length}
use Rattle.bucket.specs.Columns.{Columns, view}
use Rattle.bucket.specs.Lists.{Distinct}
use Rattle.bucket.proofs.TestLaws.{and_holds}
use Rattle.std.specs.Prelude.{None}
use Rattle.filter.specs.declared.answers.Verdict.{Verdict}
use Rattle.filter.specs.declared.answers.Verdict.TheVariants.{Complete, Stuck, False}
use Rattle.filter.specs.Calls.{in_range, are_counts, has_room, read_refusal, Read, read_false, read_with, outcome_of, verdict_of, looked_of, read_call}
use Rattle.filter.specs.Filter.{ours_of, theirs_of, Rule, filter_rule, difference}
use Rattle.filter.specs.Peeling.{Outcome, reading, verdict}
use Rattle.filter.specs.Table.{hashes_of, is_table}
use Rattle.filter.proofs.GrantedLaws.{granted-read, listed_back}
use Rattle.filter.proofs.SelectLaws.{elem_mem, mem_elem, elem-reverse, distinct-reverse}
use Rattle.filter.proofs.SideLaws.{distinct-ours, distinct-theirs}
use Rattle.filter.proofs.SoundLaws.{sound-ours, sound-theirs, reading-distinct}
use Rattle.ledger.specs.Session.{is_complete, is_false, ours_in, theirs_in, ids_of, reading_at}
use Rattle.filter.proofs.SetLaws.{◌∈◌, ◌⊆◌}
use Rattle.filter.proofs.ListLaws.{Apart}

-- what a complete reading lists, against the IDs of the table
pub record ReadLaw (ids : List ℕ) (r : Read) : Type 0 where
  pub ours_held : ours_in r ⊆ ids
  pub ours_once : Distinct (ours_in r)
  pub theirs_new : Apart (theirs_in r) ids
  pub theirs_once : Distinct (theirs_in r)

-- ---- a reading by its verdict

-- only a false one answers 6
only_false : (v : Verdict) (size : ℕ) (r : Outcome) (l : ℕ) (c : Columns) (o th : List ℕ)
    → is_false (read_with v size r l c o th) ≡ true → read_with v size r l c o th ≡ read_false size l c o th
unfolding read_with
only_false Complete size r l c o th e = absurd (false≢true e)
only_false Stuck size r l c o th e = absurd (false≢true e)
only_false False size r l c o th e = refl

module _ (derive : ℕ → ℕ) (t : List ℕ) (size salt : ℕ) (c : Columns) (o th : List ℕ) where
  pub read-law : is_complete (reading_at derive t size salt c o th) ≡ true → ReadLaw (ids_of derive t) (reading_at derive t size salt c o th)
  unfolding reading_at read_with
  read-law whole = go (verdict R (ids_of derive t) r) refl whole
    where
      R : Rule
      R = filter_rule size salt

      r : Outcome
      r = reading R (difference R (ids_of derive t) (view c))

      l : ℕ
      l = looked_of (ids_of derive t) size salt c

      once : Distinct (Rattle.filter.specs.Filter.ids r.listed)
      once = reading-distinct R (difference R (ids_of derive t) (view c))

      -- a listed ID, in the order of peeling
      back : (l : List ℕ) (x : ℕ) → x ∈ reverse l → Memᴰ x l
      back l x e = elem_mem x l (sym (elem-reverse x l) ∙ e)

      listed : verdict R (ids_of derive t) r ≡ Complete → ReadLaw (ids_of derive t) (read_with Complete size r l c o th)
      listed v =
          let a : ours_in (read_with Complete size r l c o th) ≡ reverse (ours_of r.listed) = listed_back size (ours_of r.listed) o in
          let b : theirs_in (read_with Complete size r l c o th) ≡ reverse (theirs_of r.listed) = listed_back size (theirs_of r.listed) th in
          record {
            ours_held = λ x e. mem_elem (sound-ours R (ids_of derive t) (view c) v x (back (ours_of r.listed) x (subst (λ (l : List ℕ). x ∈ l) a e)));
            ours_once = subst Distinct (sym a) (distinct-reverse (ours_of r.listed) (distinct-ours r.listed once));
            theirs_new = λ x e k. sound-theirs R (ids_of derive t) (view c) v x (back (theirs_of r.listed) x (subst (λ (l : List ℕ). x ∈ l) b e)) (elem_mem x (ids_of derive t) k);
            theirs_once = subst Distinct (sym b) (distinct-reverse (theirs_of r.listed) (distinct-theirs r.listed once));
          }

      go : (v : Verdict) → verdict R (ids_of derive t) r ≡ v → is_complete (read_with v size r l c o th) ≡ true → ReadLaw (ids_of derive t) (read_with v size r l c o th)
      go Complete e k = listed e
      go Stuck e k = absurd (false≢true k)
      go False e k = absurd (false≢true k)

  -- a complete reading is no refusal
  pub complete-clean : is_complete (reading_at derive t size salt c o th) ≡ true → (reading_at derive t size salt c o th).answer.refusal ≡ 0
  unfolding reading_at read_with
  complete-clean = go (verdict_of (ids_of derive t) size salt c) (outcome_of (ids_of derive t) size salt c) (looked_of (ids_of derive t) size salt c)
    where
      go : (v : Verdict) (r : Outcome) (l : ℕ) → is_complete (read_with v size r l c o th) ≡ true → (read_with v size r l c o th).answer.refusal ≡ 0
      go Complete r l e = refl
      go Stuck r l e = absurd (false≢true e)
      go False r l e = absurd (false≢true e)

  -- a false one leaves columns and lists zero, in the first size places
  pub false_cleared : is_false (reading_at derive t size salt c o th) ≡ true
      → reading_at derive t size salt c o th ≡ read_false size (looked_of (ids_of derive t) size salt c) c o th
  unfolding reading_at
  false_cleared = only_false _ size _ _ c o th

-- ---- the reading is filter's

module _ (derive : ℕ → ℕ) (size salt : ℕ) (bytes : List ℕ) (c : Columns) (o th : List ℕ) where
  pub granted : is_table derive bytes ≡ true → are_counts size c.counts ≡ true → in_range size salt ≡ true → has_room size c ≡ true
      → leb size (length o) ≡ true → leb size (length th) ≡ true → read_refusal derive size salt bytes c o th ≡ None
  unfolding read_refusal
  granted a b d e f g = rw (and_holds a b, d, and_holds e (and_holds f g))

  pub reading-granted : read_refusal derive size salt bytes c o th ≡ None
      → reading_at derive (hashes_of bytes) size salt c o th ≡ read_call derive size salt bytes c o th
  unfolding reading_at ids_of Rattle.filter.specs.Table.ids_of
  reading-granted e = sym (granted-read derive size salt bytes c o th e)
