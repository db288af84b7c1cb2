-- What is left of a difference while it is peeled. Each look finds an item of what is left, because a shared bucket neither looks pure
-- nor is zero; each peel empties a bucket, so there are never more peels than buckets; and no peel touches a closed part.
-- Assumes nothing.
use mathlib.Core.Path.{◌≡◌, refl, sym, ap, ◌∙◌, subst}
use mathlib.Core.Bool.{Bool, true, false, not, ◌||◌, true≢false}
use mathlib.Core.List.Memᴰ
use mathlib.Core.List.{List, [], ◌∷◌, Memᴰ}
use mathlib.Core.List.Memᴰ.{head}
use mathlib.Core.List.Memᴰ.{tail}
use mathlib.Core.Option.{none, some, some-injective}
use Prim.Native.Nat.{ℕ, zero, suc, ◌≤◌, ◌<◌}
use native.Mathlib.Omega.{arith}
use lib.Dec.{eqb}
use borrow.Author.Tests.{eqb-true, not-true}
use Rattle.bucket.specs.Bucket.{Bucket, ◌⊖◌}
use Rattle.bucket.specs.Lists.{elem, Distinct}
use Rattle.bucket.proofs.BucketLaws.{⊕-comm, then_neg}
use Rattle.bucket.proofs.ListLaws.{elem-head, elem-cons_ne}
use Rattle.filter.specs.Lists.{select}
use Rattle.filter.specs.Filter.{Item, id_of, ids, Rule, touches, put, sum_at, load}
use Rattle.filter.specs.Peeling.{first, Next, nothing, again, take, Outcome, is_pure, look, remove, next, run}
use Rattle.filter.specs.Stopping.{Clear, IsClosed}
use Rattle.filter.proofs.SelectLaws.{Pick, pick_select, select-all, select_mem, mem_select, mem_select_true}
use Rattle.filter.proofs.SumLaws.{sum_pick}
use Rattle.filter.proofs.LoadLaws.{
  look-cell,
  pure_zero,
  touches-id,
  load_zero,
  load_one,
  mem_load,
  load_pick_in,
  pick_less,
  load_mono,
  busy,
  busy_less,
}
use Rattle.filter.proofs.PeelLaws.{first_some, look-some, looks, next-take, next-nothing, next-again}

-- ---- the items whose ID is not listed

unfoldable pub left : List Item → Item → Bool
left acc y = not (elem (id_of y) (ids acc))

left_false : (acc : List Item) (x : Item) → left acc x ≡ true → elem (id_of x) (ids acc) ≡ false
unfolding left
left_false acc x e = not-true (elem (id_of x) (ids acc)) e

left-cons : (acc : List Item) (x y : Item) → eqb (id_of y) (id_of x) ≡ false → left acc y ≡ true → left (x ∷ acc) y ≡ true
unfolding left elem
left-cons acc x y k h = ap (λ (t : Bool). not (t || elem (id_of y) (ids acc))) k ∙ h

pub left-nil : (d : List Item) → select (left []) d ≡ d
unfolding left elem
left-nil d = select-all (left []) d (λ y m. refl)

pick_left : (d acc : List Item) (x : Item) → Distinct (ids d) → Memᴰ x d → elem (id_of x) (ids acc) ≡ false
    → Pick x (select (left acc) d) (select (left (x ∷ acc)) d)
unfolding left
pick_left d acc x dd m e =
    pick_select id_of (left acc) (left (x ∷ acc)) x (ap not e) (ap not (elem-head (id_of x) (ids acc)))
    (λ y k. ap not (sym (elem-cons_ne (id_of y) (id_of x) (ids acc) k))) d m dd

-- ---- a peeling under way

module _ (R : Rule) where
  -- what is assumed of a difference: its IDs can be read back from their codes, and it is clear
  pub record Fair (d : List Item) : Type 0 where
    pub codes : (x : Item) → Memᴰ x d → R.decode (R.code (id_of x)) ≡ id_of x
    pub clear : Clear R d

  -- what is listed comes from d, and the buckets hold the rest of d
  pub record State (d acc : List Item) (f : ℕ → Bucket) : Type 0 where
    pub from : (x : Item) → Memᴰ x acc → Memᴰ x d
    pub holds : (i : ℕ) → i < R.size → f i ≡ sum_at R (select (left acc) d) i

  -- a bucket that looks pure holds one item of the rest
  record Lone (d acc : List Item) (x : Item) : Type 0 where
    at : ℕ
    inside : at < R.size
    one : load R (select (left acc) d) at ≡ 1
    touched : touches R x at ≡ true
    member : Memᴰ x (select (left acc) d)

  lone : (d acc : List Item) (f : ℕ → Bucket) (x : Item) → Fair d → State d acc f → first (looks R f) 0 R.size ≡ some x → Lone d acc x
  lone d acc f x fair st e = go (load R rest j) refl
    where
      rest : List Item
      rest = select (left acc) d

      found : (i : ℕ) × (0 ≤ i) × (i < R.size) × (look R i (f i) ≡ some x)
      found = let r = first_some (looks R f) 0 R.size x e in (r.0, r.1, omega arith, r.3)

      j : ℕ
      j = found.0

      seen : look R j (sum_at R rest j) ≡ some x
      seen = ap (look R j) (sym (st.holds j found.2)) ∙ found.3

      pure : is_pure R j (sum_at R rest j) ≡ true
      pure = look-some R j (sum_at R rest j) x seen

      go : (n : ℕ) → load R rest j ≡ n → Lone d acc x
      go zero h = absurd (true≢false (sym pure ∙ ap (is_pure R j) (load_zero R rest j h) ∙ pure_zero R j))
      go (suc zero) h =
          let y = load_one R rest j h in
          let code = fair.codes y.0 (mem_select (left acc) y.0 d y.1) in
          let same : x ≡ y.0 =
          some-injective x y.0 (sym seen ∙ ap (look R j) y.3 ∙ look-cell R y.0 j code y.2) in
          record {
            at = j;
            inside = found.2;
            one = h;
            touched = subst (λ (z : Item). touches R z j ≡ true) (sym same) y.2;
            member = Memᴰ.cast same y.1;
          }
      go (suc (suc n)) h = absurd (true≢false (sym pure ∙ (fair.clear (left acc) j found.2 (omega arith)).0))

  step : (d acc : List Item) (f : ℕ → Bucket) (x : Item) → State d acc f → Memᴰ x d
      → Pick x (select (left acc) d) (select (left (x ∷ acc)) d) → State d (x ∷ acc) (remove R x f)
  unfolding remove
  step d acc f x st m pk = record { from = from; holds = holds }
    where
      from : (y : Item) → Memᴰ y (x ∷ acc) → Memᴰ y d
      from y (head e) = Memᴰ.cast e m
      from y (tail k) = st.from y k

      rest : ℕ → Bucket
      rest i = sum_at R (select (left (x ∷ acc)) d) i

      holds : (i : ℕ) → i < R.size → f i ⊖ put R x i ≡ sum_at R (select (left (x ∷ acc)) d) i
      holds i h =
          ap (λ (b : Bucket). b ⊖ put R x i) (st.holds i h ∙ sum_pick R i pk ∙ ⊕-comm (put R x i) (rest i))
          ∙ then_neg (rest i) (put R x i)

  -- no item of a closed part is listed
  abbrev pub Spared : List Item → List Item → (Item → Bool) → Type 0
  Spared d acc q = (x : Item) → Memᴰ x d → q x ≡ true → left acc x ≡ true

  -- what one peel does
  record Peeled (d acc : List Item) (f : ℕ → Bucket) (x : Item) : Type 0 where
    state : State d (x ∷ acc) (remove R x f)
    fewer : busy R (select (left (x ∷ acc)) d) R.size < busy R (select (left acc) d) R.size
    spared : (q : Item → Bool) → IsClosed R d q → Spared d acc q → Spared d (x ∷ acc) q

  peeled : (d : List Item) → Distinct (ids d) → Fair d → (acc : List Item) (f : ℕ → Bucket) (x : Item) → next R acc f ≡ take x
      → State d acc f → Peeled d acc f x
  peeled d dd fair acc f x e st = record { state = step d acc f x st member pk; fewer = fewer; spared = spared }
    where
      taken : (first (looks R f) 0 R.size ≡ some x) × (elem (id_of x) (ids acc) ≡ false)
      taken = next-take R acc f x e

      o : Lone d acc x
      o = lone d acc f x fair st taken.0

      rest : List Item
      rest = select (left acc) d

      rest' : List Item
      rest' = select (left (x ∷ acc)) d

      member : Memᴰ x d
      member = mem_select (left acc) x d o.member

      pk : Pick x rest rest'
      pk = pick_left d acc x dd member taken.1

      one : load R rest o.at ≡ 1
      one = o.one

      fewer : busy R rest' R.size < busy R rest R.size
      fewer =
          busy_less R rest' rest R.size o.at (λ i. pick_less R i pk) o.inside
          (omega (arith, load_pick_in R o.at pk o.touched, one)) (omega (arith, one))

      spared : (q : Item → Bool) → IsClosed R d q → Spared d acc q → Spared d (x ∷ acc) q
      spared q closed h y m qy = go (eqb (id_of y) (id_of x)) refl
        where
          go : (t : Bool) → eqb (id_of y) (id_of x) ≡ t → left (x ∷ acc) y ≡ true
          go false k = left-cons acc x y k (h y m qy)
          go true k =
              let touched = touches-id R x y o.at (eqb-true (id_of y) (id_of x) k) o.touched in
              let some = mem_load R y (select q d) o.at (select_mem q y d m qy) touched in
              absurd (omega (arith, closed o.at o.inside some, load_mono R q (left acc) d o.at h, one))

  pub record End (d acc : List Item) (r : Outcome) : Type 0 where
    pub fine : r.fine ≡ true
    pub state : State d r.listed r.rest
    pub done : first (looks R r.rest) 0 R.size ≡ none
    pub spared : (q : Item → Bool) → IsClosed R d q → Spared d acc q → Spared d r.listed q

  module _ (d : List Item) (dd : Distinct (ids d)) (fair : Fair d) where
    end-nothing : (acc : List Item) (f : ℕ → Bucket) → next R acc f ≡ nothing → State d acc f
        → End d acc (record { fine = true; listed = acc; rest = f })
    end-nothing acc f e st = record { fine = refl; state = st; done = next-nothing R acc f e; spared = λ q c h. h }

    -- a look never shows an item that is listed
    never_again : (acc : List Item) (f : ℕ → Bucket) → next R acc f ≡ again → State d acc f → ⊥
    never_again acc f e st =
        let j = next-again R acc f e in
        let o = lone d acc f j.0 fair st j.1 in
        true≢false (sym j.2 ∙ left_false acc j.0 (mem_select_true (left acc) j.0 d o.member))

    pub run_end : (k : ℕ) (n : Next) (acc : List Item) (f : ℕ → Bucket) → next R acc f ≡ n → State d acc f
        → busy R (select (left acc) d) R.size ≤ k → End d acc (run R k n acc f)
    unfolding run
    run_end zero nothing acc f e st b = end-nothing acc f e st
    run_end zero again acc f e st b = absurd (never_again acc f e st)
    run_end zero (take x) acc f e st b = absurd (let p = (peeled d dd fair acc f x e st).fewer in omega arith)
    run_end (suc k) nothing acc f e st b = end-nothing acc f e st
    run_end (suc k) again acc f e st b = absurd (never_again acc f e st)
    run_end (suc k) (take x) acc f e st b =
        let p = peeled d dd fair acc f x e st in
        let less = p.fewer in
        let r = run_end k (next R (x ∷ acc) (remove R x f)) (x ∷ acc) (remove R x f) refl p.state (omega arith) in
        record { fine = r.fine; state = r.state; done = r.done; spared = λ q c h. r.spared q c (p.spared q c h) }
