-- The search for places: what each candidate does to those taken, and what holds before each draw and each bucket number that is looked at.
-- Assumes nothing.
use mathlib.Core.Path.{◌≡◌, refl, sym, ap, ap₂, ◌∙◌}
use mathlib.Core.Bool.{Bool, true, false, ◌||◌, cond}
use mathlib.Core.List.{List, [], ◌∷◌, ◌++◌}
use Prim.Native.Nat.{ℕ, zero, suc, ◌+◌, ◌-◌, ◌%◌, ◌≤◌, ◌<◌, zero-le}
use native.Mathlib.Numerals.{add-one}
use native.Mathlib.Omega.{arith}
use lib.Dec.{leb}
use lib.ListN.{length, get_or, take, drop, set, length-set, length-drop}
use lib.Seq.{ext_get_or, get_or-drop, take-suc-set, length-take-le}
use borrow.Author.Tests.{le-leb, lt-leb, le-ltb, lt-ltb, ne_eqb}
use Rattle.bucket.specs.Crc.{tabulated}
use Rattle.bucket.specs.Lists.{pad, elem}
use Rattle.bucket.specs.Places.{draw, candidate, candidates, firsts, places_by}
use Rattle.bucket.proofs.ListLaws.{or_true_r, pad_last}
use Rattle.bucket.proofs.TableLaws.{tabulated-length, tabulated-at, tabulated-rest, numbers, numbers-at}

-- ---- one candidate

-- there are k already
pub firsts_full : (k : ℕ) (t cs : List ℕ) → k ≤ length t → firsts k t cs ≡ t
unfolding firsts
firsts_full k t [] h = refl
firsts_full k t (c ∷ cs) h =
    ap (λ (b : Bool). firsts k (cond (b || elem c t) t (t ++ c ∷ [])) cs) (le-leb k (length t) h) ∙ firsts_full k t cs h

-- it is one of those taken
firsts_skip : (k c : ℕ) (t cs : List ℕ) → elem c t ≡ true → firsts k t (c ∷ cs) ≡ firsts k t cs
unfolding firsts
firsts_skip k c t cs h =
    ap (λ (b : Bool). firsts k (cond b t (t ++ c ∷ [])) cs) (ap (λ (b : Bool). leb k (length t) || b) h ∙ or_true_r (leb k (length t)))

-- it is taken
pub firsts-take : (k c : ℕ) (t cs : List ℕ) → length t < k → elem c t ≡ false → firsts k t (c ∷ cs) ≡ firsts k (t ++ c ∷ []) cs
unfolding firsts
firsts-take k c t cs l h =
    ap (λ (b : Bool). firsts k (cond b t (t ++ c ∷ [])) cs) (ap₂ (λ (a b : Bool). a || b) (lt-leb k (length t) l) h)

-- ---- the candidates

candidate-draw : (next : ℕ → ℕ → ℕ) (size d i e : ℕ) → i < 64 → e ≡ draw next d i → candidate next size d i ≡ e % size
candidate-draw next size d i e h q =
    ap (λ (b : Bool). cond b (draw next d i % size) (i - 64)) (lt-ltb i 64 h) ∙ ap (λ (v : ℕ). v % size) (sym q)

-- all of them in turn
abbrev pub in_turn : (ℕ → ℕ → ℕ) → ℕ → ℕ → List ℕ
in_turn next size d = tabulated (candidate next size d) 0 (64 + size)

-- those after the draws are the bucket numbers
pub number_at : (next : ℕ → ℕ → ℕ) (size d b : ℕ) → b < size → get_or (in_turn next size d) (64 + b) 0 ≡ b
number_at next size d b h =
    tabulated-at (candidate next size d) 0 (64 + size) (64 + b) (omega arith)
    ∙ ap (λ (t : Bool). cond t (draw next d (0 + (64 + b)) % size) (0 + (64 + b) - 64)) (le-ltb (0 + (64 + b)) 64 (omega arith))
    ∙ omega arith

numbers_last : (next : ℕ → ℕ → ℕ) (size d : ℕ) → drop 64 (in_turn next size d) ≡ numbers size
numbers_last next size d =
    ext_get_or 0 (drop 64 (in_turn next size d)) (numbers size) (long ∙ sym (tabulated-length (λ c. c) 0 size)) (λ i h.
    let l : i < size = omega (arith, long) in
    get_or-drop 64 (in_turn next size d) i 0 ∙ number_at next size d i l ∙ sym (numbers-at size i l))
  where
    long : length (drop 64 (in_turn next size d)) ≡ size
    long = omega (arith, length-drop 64 (in_turn next size d), tabulated-length (candidate next size d) 0 (64 + size))

candidates_by_rule : (next : ℕ → ℕ → ℕ) (size d i m : ℕ) → candidates next size d i m ≡ tabulated (candidate next size d) i m
unfolding candidates tabulated
candidates_by_rule next size d i zero = refl
candidates_by_rule next size d i (suc m) = ap (λ (cs : List ℕ). candidate next size d i ∷ cs) (candidates_by_rule next size d (suc i) m)

pub places_of_some : (next : ℕ → ℕ → ℕ) (k size d : ℕ) → 0 < size → places_by next k size d ≡ firsts k [] (in_turn next size d)
unfolding places_by
places_of_some next k size d h =
    ap (λ (b : Bool). cond b [] (firsts k [] (candidates next size d 0 (64 + size)))) (ne_eqb size 0 (λ e. omega arith))
    ∙ ap (firsts k []) (candidates_by_rule next size d 0 (64 + size))

-- ---- the search

-- what holds before a candidate is looked at: the n places found stand first and zeros behind them, and the candidates left give the rest of all
pub record Searching (cap k : ℕ) (all taken : List ℕ) (n : ℕ) (left : List ℕ) : Type 0 where
  pub room : length taken ≡ cap
  pub fits : k ≤ cap
  pub few : n ≤ k
  pub padded : pad cap (take n taken) ≡ taken
  pub rest : firsts k (take n taken) left ≡ all

module _ {cap k : ℕ} {all l : List ℕ} {n : ℕ} {left : List ℕ} (s : Searching cap k all l n left) where
  long : length (take n l) ≡ n
  long = length-take-le n l (omega (arith, s))

  -- the k-th place is found, or there is no candidate left
  pub search_full : n ≡ k → l ≡ pad cap all
  search_full h = sym s.padded ∙ ap (pad cap) (sym (firsts_full k (take n l) left (omega (arith, long))) ∙ s.rest)

  pub search_spent : left ≡ [] → l ≡ pad cap all
  unfolding firsts
  search_spent h = sym s.padded ∙ ap (pad cap) (ap (firsts k (take n l)) (sym h) ∙ s.rest)

  module _ {c : ℕ} {more : List ℕ} (e : left ≡ c ∷ more) where
    pub search_skip : elem c (take n l) ≡ true → Searching cap k all l n more
    search_skip f = record {
      room = s.room;
      fits = s.fits;
      few = s.few;
      padded = s.padded;
      rest = sym (firsts_skip k c (take n l) more f) ∙ ap (firsts k (take n l)) (sym e) ∙ s.rest;
    }

    pub search-take : elem c (take n l) ≡ false → n < k → Searching cap k all (set l n c) (n + 1) more
    search-take f h = record {
      room = length-set l n c ∙ s.room;
      fits = s.fits;
      few = omega arith;
      padded = ap (pad cap) taken
          ∙ sym (pad_last cap c (take n l) (omega (arith, s, long)))
          ∙ ap₂ (λ (t : List ℕ) (m : ℕ). set t m c) s.padded long;
      rest = ap (λ (t : List ℕ). firsts k t more) taken
          ∙ sym (firsts-take k c (take n l) more (omega (arith, long)) f)
          ∙ ap (firsts k (take n l)) (sym e)
          ∙ s.rest;
    }
      where
        taken : take (n + 1) (set l n c) ≡ take n l ++ c ∷ []
        taken = ap (λ (m : ℕ). take m (set l n c)) (add-one n) ∙ take-suc-set l n c (omega (arith, s))

-- ---- the draws

-- what holds before draw i is looked at
pub record Drawing (next : ℕ → ℕ → ℕ) (k size d : ℕ) (taken : List ℕ) (n e i : ℕ) : Type 0 where
  pub search : Searching 4 k (places_by next k size d) taken n (drop i (in_turn next size d))
  pub short : n < k
  pub early : i ≤ 64
  pub drawn : e ≡ draw next d i

-- the first
pub drawing_start : (next : ℕ → ℕ → ℕ) (k size d : ℕ) → 0 < k → k ≤ 4 → 0 < size → Drawing next k size d (0 ∷ 0 ∷ 0 ∷ 0 ∷ []) 0 d 0
unfolding draw pad
drawing_start next k size d h f z = record {
  search = record { room = refl; fits = f; few = zero-le; padded = refl; rest = sym (places_of_some next k size d z) };
  short = h;
  early = zero-le;
  drawn = refl;
}

-- after the last, what is missing is made up by bucket numbers
pub drawing_last : {next : ℕ → ℕ → ℕ} {k size d : ℕ} {l : List ℕ} {n e i : ℕ} → Drawing next k size d l n e i → i ≡ 64
    → firsts k (take n l) (numbers size) ≡ places_by next k size d
drawing_last {next} {k} {size} {d} {l} {n} s q =
    ap (firsts k (take n l)) (sym (ap (λ (m : ℕ). drop m (in_turn next size d)) q ∙ numbers_last next size d)) ∙ s.search.rest

-- a draw that leads to a bucket taken before, or to another
module _ {next : ℕ → ℕ → ℕ} {k size d : ℕ} {l : List ℕ} {n e i : ℕ} (s : Drawing next k size d l n e i) (h : i < 64) where
  left : drop i (in_turn next size d) ≡ e % size ∷ drop (i + 1) (in_turn next size d)
  left =
      tabulated-rest (candidate next size d) (64 + size) i (omega arith)
      ∙ ap (λ (c : ℕ). c ∷ drop (i + 1) (in_turn next size d)) (candidate-draw next size d i e h s.drawn)

  drawn-next : (v : ℕ) → v ≡ next e i → v ≡ draw next d (i + 1)
  unfolding draw
  drawn-next v q = q ∙ ap (λ (u : ℕ). next u i) s.drawn ∙ ap (draw next d) (sym (add-one i))

  pub drawing_skip : elem (e % size) (take n l) ≡ true → (v : ℕ) → v ≡ next e i → Drawing next k size d l n v (i + 1)
  drawing_skip f v q = record { search = search_skip s.search left f; short = s.short; early = omega arith; drawn = drawn-next v q }

  module _ (f : elem (e % size) (take n l) ≡ false) where
    more : Searching 4 k (places_by next k size d) (set l n (e % size)) (n + 1) (drop (i + 1) (in_turn next size d))
    more = search-take s.search left f s.short

    pub drawing_take : (n + 1 ≡ k → ⊥) → (v : ℕ) → v ≡ next e i → Drawing next k size d (set l n (e % size)) (n + 1) v (i + 1)
    drawing_take g v q = record { search = more; short = omega (arith, s); early = omega arith; drawn = drawn-next v q }

    pub drawing_done : n + 1 ≡ k → set l n (e % size) ≡ pad 4 (places_by next k size d)
    drawing_done g = search_full more g
