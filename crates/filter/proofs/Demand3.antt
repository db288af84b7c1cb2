-- Demand 3 of the order, both halves, of the reading call as its contract states it.
--
-- complete_trusted: "Whatever the far end sends, .. when it is called complete, the filter made by the rules, at our size and salt, from our
-- IDs, less those listed as ours, plus those listed as theirs, equals the received one in every bucket and column."
-- complete-set: "Made by the rules, from a set of IDs" (document 01): what is listed as ours is of our IDs, and what that filter is made from has
-- no ID twice.
-- reads_exactly: "Further, let the received filter be made by the rules, at our size and salt, from any set of IDs. Suppose that in no part of
-- the true difference does a bucket shared by several IDs pass for a bucket holding one ID or none. Then the reading lists exactly the true
-- difference less its largest knot, if there is one, each ID once and on its right side. It is called complete exactly when there is no knot,
-- and otherwise stuck."
--
-- demand_3: all three, at document 01's derivation of IDs, which the exported call has. They are stated over any derivation, the last over one
-- of 64 bits.
-- "a reading is document 01's peeling, order and all" is the contract itself: read_call is stated by `reading` and `verdict` of specs/Peeling.
-- A knot is a stopping set (specs/Stopping). proofs/Examples shows differences that the supposition holds of, with a knot and without.
-- Assumes nothing.
use mathlib.Core.Path.{◌≡◌, refl, sym, ap, ap₂, ◌∙◌, subst}
use mathlib.Core.Logic.{◌⊎◌, inl, inr}
use mathlib.Core.Bool.{Bool, true}
use mathlib.Core.List.{List, ◌++◌, reverse, Memᴰ}
use Prim.Native.Nat.{ℕ, ◌^◌, ◌<◌}
use native.Mathlib.Omega.{arith}
use lib.Dec.{eqb}
use lib.ListN.{length, take}
use Rattle.bucket.specs.Bucket.{Bucket, ◌⊕◌}
use Rattle.bucket.specs.Columns.{Columns, view}
use Rattle.bucket.specs.Lists.{elem, Distinct}
use Rattle.bucket.specs.Places.{place_count}
use Rattle.bucket.proofs.PlaceLaws.{place-count-some}
use Rattle.std.specs.Prelude.{None}
use Rattle.filter.specs.declared.answers.Verdict.{Verdict}
use Rattle.filter.specs.declared.answers.Verdict.TheVariants.{Complete, Stuck, False}
use Rattle.filter.specs.Lists.{minus}
use Rattle.filter.specs.Table.{first_eight, ids_of}
use Rattle.filter.specs.Filter.{Item, ids, ours_of, theirs_of, Rule, filter_rule, filter_of, difference}
use Rattle.filter.specs.Peeling.{Outcome, is_complete}
use Rattle.filter.specs.Stopping.{differing, Clear, Exactly}
use Rattle.filter.specs.Calls.{listed_into, read_refusal, Read, read_with, outcome_of, verdict_of, looked_of, read_by, read_call}
use Rattle.filter.proofs.SelectLaws.{elem_mem, mem_elem, elem-reverse, distinct_append, distinct-reverse, distinct-minus, mem_minus, minus_cong}
use Rattle.filter.proofs.SideLaws.{distinct-ours, distinct-theirs, sides_apart}
use Rattle.filter.proofs.SumLaws.{filter_append, filter_reverse}
use Rattle.filter.proofs.SoundLaws.{sound, sound-ours, sound-theirs, reading-distinct}
use Rattle.filter.proofs.LeftLaws.{Fair}
use Rattle.filter.proofs.ExactLaws.{Placed, exactly, never_false}
use Rattle.filter.proofs.IdLaws.{ids-distinct, first_eight_below, ids-below, fair, placed}
use Rattle.filter.proofs.GrantedLaws.{granted-table, granted-size, granted-read, complete-granted, listed_back}

-- the IDs that a call lists: the first part of each list, up to the length that it answers
abbrev pub listed_ours : Read → List ℕ
listed_ours m = take m.answer.ours m.ours

abbrev pub listed_theirs : Read → List ℕ
listed_theirs m = take m.answer.theirs m.theirs

-- ---- the order of a list does not matter

listed_mem : (l : List ℕ) (a : ℕ) → Memᴰ a (reverse l) → Memᴰ a l
listed_mem l a m = elem_mem a l (sym (elem-reverse a l) ∙ mem_elem m)

module _ (R : Rule) where
  filter_listed : (t o th : List ℕ) (i : ℕ)
      → filter_of R (minus t (reverse o) ++ reverse th) i ≡ filter_of R (minus t o ++ th) i
  filter_listed t o th i =
      filter_append R (minus t (reverse o)) (reverse th) i
      ∙ ap₂ (λ (a b : Bucket). a ⊕ b)
      (ap (λ (l : List ℕ). filter_of R l i) (minus_cong t (reverse o) o (λ a. elem-reverse a o))) (filter_reverse R th i)
      ∙ sym (filter_append R (minus t o) th i)

  exactly_listed : (t s : List ℕ) (l : List Item) (b : Bool) → Distinct (reverse (ours_of l) ++ reverse (theirs_of l))
      → Exactly R t s (ours_of l) (theirs_of l) b → Exactly R t s (reverse (ours_of l)) (reverse (theirs_of l)) b
  exactly_listed t s l b once e = record {
    core = e.core;
    is_core = e.is_core;
    ours_are = λ a. elem-reverse a (ours_of l) ∙ e.ours_are a;
    theirs_are = λ a. elem-reverse a (theirs_of l) ∙ e.theirs_are a;
    once = once;
    whole = e.whole;
    stopped = e.stopped;
  }

-- ---- first half

-- a call that answers complete: its verdict, its table, and its lists
module _ (derive : ℕ → ℕ) (size salt : ℕ) (t : List ℕ) (c : Columns) (o th : List ℕ)
    (whole : (read_call derive size salt t c o th).answer.complete ≡ 1) where
  granted : read_refusal derive size salt t c o th ≡ None
  granted = complete-granted derive size salt t c o th whole

  complete-table : Distinct (ids_of derive t)
  complete-table = ids-distinct derive t (granted-table derive size salt t c o th granted)

  complete-verdict : verdict_of (ids_of derive t) size salt c ≡ Complete
  unfolding read_with
  complete-verdict =
      go (verdict_of (ids_of derive t) size salt c) (subst (λ (m : Read). m.answer.complete ≡ 1) (granted-read derive size salt t c o th granted) whole)
    where
      go : (v : Verdict) → (read_with v size (outcome_of (ids_of derive t) size salt c) (looked_of (ids_of derive t) size salt c) c o th).answer.complete ≡ 1 → v ≡ Complete
      go Complete k = refl
      go Stuck k = absurd (omega arith)
      go False k = absurd (omega arith)

  complete-lists :
      let l = (outcome_of (ids_of derive t) size salt c).listed in
      (listed_ours (read_call derive size salt t c o th) ≡ reverse (ours_of l)) × (listed_theirs (read_call derive size salt t c o th) ≡ reverse (theirs_of l))
  unfolding read_with
  complete-lists =
      let l = (outcome_of (ids_of derive t) size salt c).listed in
      rw (granted-read derive size salt t c o th granted, complete-verdict) (listed_back size (ours_of l) o, listed_back size (theirs_of l) th)

-- "the filter made by the rules .. equals the received one in every bucket and column"
abbrev pub CompleteTrusted : (ℕ → ℕ) → Type 0
CompleteTrusted derive =
    (size salt : ℕ) (t : List ℕ) (c : Columns) (o th : List ℕ) → (read_call derive size salt t c o th).answer.refusal ≡ 0
    → (read_call derive size salt t c o th).answer.complete ≡ 1 → (i : ℕ) → i < size
    → view c i ≡ filter_of (filter_rule size salt)
    (minus (ids_of derive t) (listed_ours (read_call derive size salt t c o th)) ++ listed_theirs (read_call derive size salt t c o th)) i

pub complete_trusted : (derive : ℕ → ℕ) → CompleteTrusted derive
complete_trusted derive size salt t c o th accepted whole i h =
    let R = filter_rule size salt in
    let l = (outcome_of (ids_of derive t) size salt c).listed in
    let lists = complete-lists derive size salt t c o th whole in
    rw (lists.0, lists.1)
    (sound R (ids_of derive t) (view c) (complete-verdict derive size salt t c o th whole) (complete-table derive size salt t c o th whole) i h
    ∙ sym (filter_listed R (ids_of derive t) (ours_of l) (theirs_of l) i))

-- "from a set of IDs": what is listed as ours is of our IDs, and our IDs less it, with what is listed as theirs, have no ID twice
abbrev pub CompleteSet : (ℕ → ℕ) → Type 0
CompleteSet derive =
    (size salt : ℕ) (t : List ℕ) (c : Columns) (o th : List ℕ) → (read_call derive size salt t c o th).answer.complete ≡ 1
    → ((a : ℕ) → elem a (listed_ours (read_call derive size salt t c o th)) ≡ true → elem a (ids_of derive t) ≡ true)
    × Distinct (minus (ids_of derive t) (listed_ours (read_call derive size salt t c o th)) ++ listed_theirs (read_call derive size salt t c o th))

pub complete-set : (derive : ℕ → ℕ) → CompleteSet derive
complete-set derive size salt t c o th whole =
    let R = filter_rule size salt in
    let l = (outcome_of (ids_of derive t) size salt c).listed in
    let lists = complete-lists derive size salt t c o th whole in
    let v = complete-verdict derive size salt t c o th whole in
    rw (lists.0, lists.1) (
      λ a m. mem_elem (sound-ours R (ids_of derive t) (view c) v a (listed_mem (ours_of l) a (elem_mem a (reverse (ours_of l)) m))),
      distinct_append (minus (ids_of derive t) (reverse (ours_of l))) (reverse (theirs_of l))
          (distinct-minus (ids_of derive t) (reverse (ours_of l)) (complete-table derive size salt t c o th whole))
          (distinct-reverse (theirs_of l) (distinct-theirs l (reading-distinct R (difference R (ids_of derive t) (view c)))))
          (λ a m n. sound-theirs R (ids_of derive t) (view c) v a (listed_mem (theirs_of l) a n) (mem_minus (ids_of derive t) (reverse (ours_of l)) a m)),
    )

-- ---- second half

abbrev pub ReadsExactly : (ℕ → ℕ) → Type 0
ReadsExactly derive =
    (size salt : ℕ) (t : List ℕ) (c : Columns) (o th : List ℕ) → read_refusal derive size salt t c o th ≡ None
    → (s : List ℕ) → Distinct s → ((a : ℕ) → elem a s ≡ true → a < 2 ^ 64)
    → ((i : ℕ) → i < size → view c i ≡ filter_of (filter_rule size salt) s i)
    → Clear (filter_rule size salt) (differing (ids_of derive t) s)
    → ((read_call derive size salt t c o th).answer.refusal ≡ 0)
    × Exactly (filter_rule size salt) (ids_of derive t) s
    (listed_ours (read_call derive size salt t c o th)) (listed_theirs (read_call derive size salt t c o th))
    (eqb (read_call derive size salt t c o th).answer.complete 1)

pub reads_exactly : (derive : ℕ → ℕ) → ((h : ℕ) → h < 2 ^ 512 → derive h < 2 ^ 64) → ReadsExactly derive
unfolding read_with
reads_exactly derive bound size salt t c o th granted s ds small made clear =
    subst Right (sym (granted-read derive size salt t c o th granted)) (go never)
  where
    R : Rule
    R = filter_rule size salt

    Right : Read → Type 0
    Right m = (m.answer.refusal ≡ 0) × Exactly (filter_rule size salt) (ids_of derive t) s (listed_ours m) (listed_theirs m) (eqb m.answer.complete 1)

    r : Outcome
    r = outcome_of (ids_of derive t) size salt c

    l : ℕ
    l = looked_of (ids_of derive t) size salt c

    table : Distinct (ids_of derive t)
    table = ids-distinct derive t (granted-table derive size salt t c o th granted)

    rule-placed : Placed R
    rule-placed = let large = granted-size derive size salt t c o th granted in placed (place_count size) size salt (place-count-some size) (omega arith)

    rule_fair : Fair R (differing (ids_of derive t) s)
    rule_fair = fair (place_count size) size salt (ids_of derive t) s (ids-below derive bound t) (λ a m. small a (mem_elem m)) clear

    never : (verdict_of (ids_of derive t) size salt c ≡ Complete) ⊎ (verdict_of (ids_of derive t) size salt c ≡ Stuck)
    never = never_false R rule-placed (ids_of derive t) s table ds (view c) made rule_fair

    dl : Distinct (ids r.listed)
    dl = reading-distinct R (difference R (ids_of derive t) (view c))

    once : Distinct (reverse (ours_of r.listed) ++ reverse (theirs_of r.listed))
    once =
        distinct_append (reverse (ours_of r.listed)) (reverse (theirs_of r.listed))
        (distinct-reverse (ours_of r.listed) (distinct-ours r.listed dl)) (distinct-reverse (theirs_of r.listed) (distinct-theirs r.listed dl))
        (λ a m n. sides_apart r.listed dl a (listed_mem (ours_of r.listed) a m) (listed_mem (theirs_of r.listed) a n))

    listed : (v : Verdict) → verdict_of (ids_of derive t) size salt c ≡ v
        → Exactly R (ids_of derive t) s (take (length (ours_of r.listed)) (listed_into size (reverse (ours_of r.listed)) o))
        (take (length (theirs_of r.listed)) (listed_into size (reverse (theirs_of r.listed)) th)) (is_complete v)
    listed v e =
        rw (listed_back size (ours_of r.listed) o, listed_back size (theirs_of r.listed) th)
        (exactly_listed R (ids_of derive t) s r.listed (is_complete v) once
        (rw e at (exactly R rule-placed (ids_of derive t) s table ds (view c) made rule_fair)))

    go : (verdict_of (ids_of derive t) size salt c ≡ Complete) ⊎ (verdict_of (ids_of derive t) size salt c ≡ Stuck)
        → Right (read_by (ids_of derive t) size salt c o th)
    go (inl e) = subst (λ (v : Verdict). Right (read_with v size r l c o th)) (sym e) (refl, listed Complete e)
    go (inr e) = subst (λ (v : Verdict). Right (read_with v size r l c o th)) (sym e) (refl, listed Stuck e)

-- ---- demand 3, by document 01's derivation of IDs

pub demand_3 : CompleteTrusted first_eight × CompleteSet first_eight × ReadsExactly first_eight
demand_3 = (complete_trusted first_eight, complete-set first_eight, reads_exactly first_eight first_eight_below)
