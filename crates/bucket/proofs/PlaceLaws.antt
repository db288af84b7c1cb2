-- The places of an element: as many as asked for if the filter has them, distinct, and below its size. Assumes nothing.
use mathlib.Core.Path.{◌≡◌, refl, sym, ap, ap₂, ◌∙◌}
use mathlib.Core.Bool.{Bool, true, false, ◌||◌, cond, false≢true}
use mathlib.Core.List.{List, [], ◌∷◌, ◌++◌}
use Prim.Native.Nat.{ℕ, zero, suc, ◌+◌, ◌-◌, ◌%◌, ◌≤◌, ◌<◌, min, zero-le}
use native.Mathlib.Nat.{mod-lt}
use native.Mathlib.Numerals.{add-one}
use native.Mathlib.Omega.{arith}
use lib.Dec.{ltb, leb, eqb}
use lib.ListN.{length, get_or, take, drop, replicate, length-append}
use lib.Seq.{drop-cons, take_at}
use borrow.Author.Tests.{ltb-true, ltb-false, leb-true, leb-false, eqb-true}
use Rattle.bucket.specs.Crc.{crc_tables, next_by}
use Rattle.bucket.specs.Lists.{pad, elem, Distinct}
use Rattle.bucket.specs.Places.{draw, crc_next, candidate, candidates, keep, firsts, places_by, places, place_count}
use Rattle.bucket.proofs.ListLaws.{
  or_true_r,
  eqb_self,
  elem-nil,
  elem-head,
  elem_tail,
  elem_cases,
  elem-append,
  elem_last,
  elem_at,
  at_index,
  distinct_last,
  pad-at,
}
use Rattle.bucket.proofs.SearchLaws.{firsts_full, firsts-take, in_turn, number_at, places_of_some}
use Rattle.bucket.proofs.TableLaws.{tabulated-length, tabulated-at, tabulated-rest, distinct-below, covered_below, next_by_tables}

-- ---- what each candidate leaves

record Good (k size : ℕ) (t : List ℕ) : Type 0 where
  few : length t ≤ k
  below : (p : ℕ) → elem p t ≡ true → p < size
  distinct : Distinct t

good-nil : (k size : ℕ) → Good k size []
good-nil k size = record { few = zero-le; below = λ p e. absurd (false≢true (sym (elem-nil p) ∙ e)); distinct = tt }

good-keep : (k size c : ℕ) (t : List ℕ) → Good k size t → c < size → Good k size (keep k t c)
good-keep k size c t g h = go (leb k (length t)) (elem c t) refl refl
  where
    go : (a b : Bool) → leb k (length t) ≡ a → elem c t ≡ b → Good k size (cond (a || b) t (t ++ c ∷ []))
    go true b p q = g
    go false true p q = g
    go false false p q = record {
      few = omega (arith, leb-false k (length t) p, length-append t (c ∷ []));
      below = λ v e. last v (elem v t) refl (eqb v c) refl (sym (elem_last v c t) ∙ e);
      distinct = distinct_last c t g.distinct q;
    }
      where
        last : (v : ℕ) (a : Bool) → elem v t ≡ a → (b : Bool) → eqb v c ≡ b → elem v t || eqb v c ≡ true → v < size
        last v true p b q e = g.below v p
        last v false p true q e = omega (arith, h, eqb-true v c q)
        last v false p false q e = absurd (false≢true (sym (ap₂ (λ (s t : Bool). s || t) p q) ∙ e))

good-firsts : (k size : ℕ) (t cs : List ℕ) → Good k size t → ((c : ℕ) → elem c cs ≡ true → c < size) → Good k size (firsts k t cs)
unfolding firsts
good-firsts k size t [] g h = g
good-firsts k size t (c ∷ cs) g h =
    good-firsts k size (keep k t c) cs (good-keep k size c t g (h c (elem-head c cs))) (λ b e. h b (elem_tail b c cs e))

candidate-below : (next : ℕ → ℕ → ℕ) (size d i : ℕ) → 0 < size → i < 64 + size → candidate next size d i < size
candidate-below next size d i z h = go (ltb i 64) refl
  where
    go : (b : Bool) → ltb i 64 ≡ b → cond b (draw next d i % size) (i - 64) < size
    go true p = mod-lt (draw next d i) z
    go false p = omega (arith, ltb-false i 64 p)

in_turn-below : (next : ℕ → ℕ → ℕ) (size d c : ℕ) → 0 < size → elem c (in_turn next size d) ≡ true → c < size
in_turn-below next size d c z e =
    let r = at_index c (in_turn next size d) e in
    let l : r.0 < 64 + size = omega (arith, r.1, tabulated-length (candidate next size d) 0 (64 + size)) in
    omega (arith, r.2, tabulated-at (candidate next size d) 0 (64 + size) r.0 l, candidate-below next size d (0 + r.0) z (omega arith))

places-good : (next : ℕ → ℕ → ℕ) (k size d : ℕ) → Good k size (places_by next k size d)
unfolding places_by
places-good next k zero d = good-nil k 0
places-good next k (suc m) d =
    let some : 0 < suc m = omega arith in
    rw (places_of_some next k (suc m) d some)
    (good-firsts k (suc m) [] (in_turn next (suc m) d) (good-nil k (suc m)) (λ c e. in_turn-below next (suc m) d c some e))

pub places-distinct : (next : ℕ → ℕ → ℕ) (k size d : ℕ) → Distinct (places_by next k size d)
places-distinct next k size d = (places-good next k size d).distinct

pub places-below : (next : ℕ → ℕ → ℕ) (k size d p : ℕ) → elem p (places_by next k size d) ≡ true → p < size
places-below next k size d p e = (places-good next k size d).below p e

-- ---- there are enough

-- what is taken stays
stays_keep : (k v c : ℕ) (t : List ℕ) → elem v t ≡ true → elem v (keep k t c) ≡ true
stays_keep k v c t h = go (leb k (length t) || elem c t)
  where
    go : (b : Bool) → elem v (cond b t (t ++ c ∷ [])) ≡ true
    go true = h
    go false = elem-append v t (c ∷ []) ∙ ap (λ (b : Bool). b || elem v (c ∷ [])) h

stays_firsts : (k v : ℕ) (t cs : List ℕ) → elem v t ≡ true → elem v (firsts k t cs) ≡ true
unfolding firsts
stays_firsts k v t [] h = h
stays_firsts k v t (c ∷ cs) h = stays_firsts k v (keep k t c) cs (stays_keep k v c t h)

-- a candidate is there after its turn, unless there were k before it
keep_covers : (k c : ℕ) (t : List ℕ) → length t < k → elem c (keep k t c) ≡ true
keep_covers k c t h = go (leb k (length t)) (elem c t) refl refl
  where
    go : (a b : Bool) → leb k (length t) ≡ a → elem c t ≡ b → elem c (cond (a || b) t (t ++ c ∷ [])) ≡ true
    go true b p q = absurd (omega (arith, h, leb-true k (length t) p))
    go false true p q = q
    go false false p q = elem_last c c t ∙ ap (λ (b : Bool). elem c t || b) (eqb_self c) ∙ or_true_r (elem c t)

-- where there are not k in the end, every candidate is there
firsts_covers : (k : ℕ) (t cs : List ℕ) → length (firsts k t cs) < k → (c : ℕ) → elem c cs ≡ true → elem c (firsts k t cs) ≡ true
unfolding firsts
firsts_covers k t [] h c e = absurd (false≢true (sym (elem-nil c) ∙ e))
firsts_covers k t (b ∷ cs) h c e =
    elem_cases (λ (v : ℕ). elem v (firsts k (keep k t b) cs) ≡ true) c b cs e
    (stays_firsts k b (keep k t b) cs (keep_covers k b t (short (leb k (length t)) refl)))
    (λ f. firsts_covers k (keep k t b) cs h c f)
  where
    short : (a : Bool) → leb k (length t) ≡ a → length t < k
    short true p = absurd (omega (arith, h, leb-true k (length t) p, ap length (firsts_full k t (b ∷ cs) (leb-true k (length t) p))))
    short false p = leb-false k (length t) p

-- every bucket is a candidate
bucket-elem : (next : ℕ → ℕ → ℕ) (size d b : ℕ) → b < size → elem b (in_turn next size d) ≡ true
bucket-elem next size d b h =
    ap (λ (v : ℕ). elem v (in_turn next size d)) (sym (number_at next size d b h))
    ∙ elem_at (in_turn next size d) (64 + b) (omega (arith, tabulated-length (candidate next size d) 0 (64 + size)))

pub places-length : (next : ℕ → ℕ → ℕ) (k size d : ℕ) → length (places_by next k size d) ≡ min k size
places-length next k size d = go (leb k (length (places_by next k size d))) refl
  where
    most : length (places_by next k size d) ≤ size
    most = distinct-below size (places_by next k size d) (places-distinct next k size d) (places-below next k size d)

    -- fewer than k: then every bucket is taken
    all : length (places_by next k size d) < k → size ≤ length (places_by next k size d)
    all h =
        covered_below size (places_by next k size d) (λ b l.
        let e = places_of_some next k size d (omega arith) in
        ap (elem b) e ∙ firsts_covers k [] (in_turn next size d) (rw e at h) b (bucket-elem next size d b l))

    go : (a : Bool) → leb k (length (places_by next k size d)) ≡ a → length (places_by next k size d) ≡ min k size
    go true p = omega (arith, leb-true k (length (places_by next k size d)) p, (places-good next k size d).few, most)
    go false p = let few = leb-false k (length (places_by next k size d)) p in omega (arith, all few, most)

pub places_count : (next : ℕ → ℕ → ℕ) (k size d : ℕ) → k ≤ size → length (places_by next k size d) ≡ k
places_count next k size d h = omega (arith, places-length next k size d)

-- ---- draws are asked for below 64 only

module _ (f g : ℕ → ℕ → ℕ) (agree : (e i : ℕ) → i < 64 → f e i ≡ g e i) where
  draw-agree : (d i : ℕ) → i < 64 → draw f d i ≡ draw g d i
  unfolding draw
  draw-agree d zero h = refl
  draw-agree d (suc i) h = agree (draw f d i) i (omega arith) ∙ ap (λ (e : ℕ). g e i) (draw-agree d i (omega arith))

  candidate-agree : (size d i : ℕ) → candidate f size d i ≡ candidate g size d i
  candidate-agree size d i = go (ltb i 64) refl
    where
      go : (b : Bool) → ltb i 64 ≡ b → cond b (draw f d i % size) (i - 64) ≡ cond b (draw g d i % size) (i - 64)
      go true p = ap (λ (e : ℕ). e % size) (draw-agree d i (ltb-true i 64 p))
      go false p = refl

  candidates-agree : (size d i m : ℕ) → candidates f size d i m ≡ candidates g size d i m
  unfolding candidates
  candidates-agree size d i zero = refl
  candidates-agree size d i (suc m) = ap₂ (λ (c : ℕ) (cs : List ℕ). c ∷ cs) (candidate-agree size d i) (candidates-agree size d (suc i) m)

  places-agree : (k size d : ℕ) → places_by f k size d ≡ places_by g k size d
  unfolding places_by
  places-agree k size d = ap (λ (cs : List ℕ). cond (eqb size 0) [] (firsts k [] cs)) (candidates-agree size d 0 (64 + size))

pub places_by_tables : (k size d : ℕ) → places_by (next_by crc_tables) k size d ≡ places k size d
places_by_tables = places-agree (next_by crc_tables) crc_next (λ e i h. next_by_tables e i (omega arith))

-- ---- what a caller that goes through the places by index wants of each

pub record Place (next : ℕ → ℕ → ℕ) (k size d : ℕ) (r : List ℕ) (j : ℕ) : Type 0 where
  pub entry : get_or r j 0 ≡ get_or (places_by next k size d) j 0
  pub below : get_or r j 0 < size
  pub rest : drop j (places_by next k size d) ≡ get_or r j 0 ∷ drop (j + 1) (places_by next k size d)

pub place : (next : ℕ → ℕ → ℕ) (k size d n : ℕ) (r : List ℕ) (j : ℕ) → r ≡ pad n (places_by next k size d) → j < min k size
    → Place next k size d r j
place next k size d n r j e h = record {
  entry = same;
  below = rw same (places-below next k size d (get_or (places_by next k size d) j 0) (elem_at (places_by next k size d) j within));
  rest = drop-cons (places_by next k size d) j 0 within
      ∙ ap₂ (λ (v m : ℕ). v ∷ drop m (places_by next k size d)) (sym same) (sym (add-one j));
}
  where
    within : j < length (places_by next k size d)
    within = omega (arith, places-length next k size d)

    same : get_or r j 0 ≡ get_or (places_by next k size d) j 0
    same = ap (λ (l : List ℕ). get_or l j 0) e ∙ pad-at n (places_by next k size d) j within

-- the places without the zeros behind them
pub places-back : (next : ℕ → ℕ → ℕ) (k size d cap n : ℕ) → n ≡ min k size → take n (pad cap (places_by next k size d)) ≡ places_by next k size d
unfolding pad
places-back next k size d cap n e =
    take_at (places_by next k size d) (replicate (cap - length (places_by next k size d)) 0) n (sym (e ∙ sym (places-length next k size d)))

-- draw 0 leads to a place
pub first-placed : (next : ℕ → ℕ → ℕ) (k size d : ℕ) → 0 < k → 0 < size → elem (d % size) (places_by next k size d) ≡ true
unfolding draw
first-placed next k size d h z =
    ap (elem (d % size))
    (places_of_some next k size d z
    ∙ ap (firsts k []) (tabulated-rest (candidate next size d) (64 + size) 0 (omega arith))
    ∙ firsts-take k (d % size) [] (drop (0 + 1) (in_turn next size d)) h (elem-nil (d % size)))
    ∙ stays_firsts k (d % size) (d % size ∷ []) (drop (0 + 1) (in_turn next size d)) (elem-head (d % size) [])

-- ---- how many places an element has: all that the crates above know of the number

pub place-count-some : (size : ℕ) → 1 ≤ place_count size
unfolding place_count
place-count-some size = omega arith

pub place-count-most : (size : ℕ) → place_count size ≤ 4
unfolding place_count
place-count-most size = omega arith

pub place-count_37 : place_count 37 ≡ 3
unfolding place_count
place-count_37 = refl
