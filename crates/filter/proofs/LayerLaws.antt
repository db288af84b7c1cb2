-- The rule of several strata: with one it is a filter's, with 32 of 79 buckets the estimator's; and an element's stratum lies within it.
-- Assumes nothing.
use mathlib.Core.Path.{◌≡◌, refl, sym, ap, ap₂, ◌∙◌, subst, fun_ext}
use mathlib.Core.List.{List, [], ◌∷◌, map}
use Prim.Native.Nat.{ℕ, ◌+◌, ◌-◌, ◌*◌, min, ◌≤◌}
use native.Mathlib.Nat.{mul-zero, mul-one, mul-add, mul_comm, mul-le-mul, mul-le-mul_left}
use native.Mathlib.Omega.{arith}
use lib.IntN.{pos}
use Rattle.bucket.specs.Bucket.{bucket, ◌⊕◌}
use Rattle.bucket.specs.Columns.{Columns, view}
use Rattle.bucket.specs.Counts.{stratum_of}
use Rattle.bucket.specs.Crc.{crc_of}
use Rattle.bucket.specs.Places.{crc_next, places}
use Rattle.bucket.specs.Salt.{salted, unsalted}
use Rattle.bucket.proofs.CountLaws.{stratum_le}
use Rattle.bucket.proofs.PlaceLaws.{places-below}
use Rattle.filter.specs.Filter.{Rule, rule, filter_of}
use Rattle.filter.specs.Calls.{filled}
use Rattle.filter.specs.Estimator.{estimator_rule}
use Rattle.filter.specs.Steps.{Wide, Small, spread, layered}
use Rattle.filter.proofs.FilledLaws.{wide-less}
use Rattle.filter.proofs.LentLaws.{small-less, part_of, with_part, part-wide, part_small, spread-part}

-- rules that differ in their size and places at most
rule-same : (salt : ℕ) {m n : ℕ} {p q : ℕ → List ℕ} → m ≡ n → ((w : ℕ) → p w ≡ q w)
    → ◌≡◌ {A = Rule} (record { size = m; code = salted salt; decode = unsalted salt; places = p; check = crc_of })
    (record { size = n; code = salted salt; decode = unsalted salt; places = q; check = crc_of })
rule-same salt e h = λ i. record { size = e i; code = salted salt; decode = unsalted salt; places = fun_ext h i; check = crc_of }

moved_none : (n : ℕ) (l : List ℕ) → n ≡ 0 → map (λ i. n + i) l ≡ l
moved_none n [] e = refl
moved_none n (a ∷ l) e = ap₂ (λ (x : ℕ) (r : List ℕ). x ∷ r) (omega (arith, e)) (moved_none n l e)

layered_filter : (k size salt : ℕ) → layered 0 k size salt ≡ rule k size salt
layered_filter k size salt =
    rule-same salt (omega arith) (λ w. moved_none (size * min 0 (stratum_of w)) (places k size (crc_of w)) (none (stratum_of w)))
  where
    none : (t : ℕ) → size * min 0 t ≡ 0
    none t = ap (λ (m : ℕ). size * m) (omega arith) ∙ mul-zero size

layered_estimator : (salt : ℕ) → layered 31 3 79 salt ≡ estimator_rule salt
layered_estimator salt =
    rule-same salt refl (λ w. ap (λ (s : ℕ). map (λ i. 79 * s + i) (places 3 79 (crc_of w))) (omega (arith, stratum_le w)))

-- a filter's columns are wide enough for its one stratum, and its counts are that stratum's
pub one-wide : (size : ℕ) (c : Columns) → Wide size c → Wide ((0 + 1) * size) c
one-wide size c w = wide-less ((0 + 1) * size) size c (omega arith) w

pub one-small : (size m : ℕ) (c : Columns) → Small size m c → Small ((0 + 1) * size) m c
one-small size m c s = small-less ((0 + 1) * size) size m c (omega arith) s

-- what was added by one rule was added by an equal one
added_by : (l : List ℕ) (c c' : Columns) {R Q : Rule} → R ≡ Q → c' ≡ filled R.size (λ i. view c i ⊕ filter_of R l i) c
    → c' ≡ filled Q.size (λ i. view c i ⊕ filter_of Q l i) c
added_by l c c' e h = subst (λ (R : Rule). c' ≡ filled R.size (λ i. view c i ⊕ filter_of R l i) c) e h

pub added_filter : (k size salt : ℕ) (l : List ℕ) (c c' : Columns)
    → c' ≡ filled (layered 0 k size salt).size (λ i. view c i ⊕ filter_of (layered 0 k size salt) l i) c
    → c' ≡ filled size (λ i. view c i ⊕ filter_of (rule k size salt) l i) c
added_filter k size salt l c c' h = added_by l c c' (layered_filter k size salt) h

pub added_estimator : (salt : ℕ) (l : List ℕ) (c c' : Columns)
    → c' ≡ filled (layered 31 3 79 salt).size (λ i. view c i ⊕ filter_of (layered 31 3 79 salt) l i) c
    → c' ≡ filled 2528 (λ i. view c i ⊕ filter_of (estimator_rule salt) l i) c
added_estimator salt l c c' h = added_by l c c' (layered_estimator salt) h

-- a stratum ends where the last one ends, or before
pub stratum-fits : (size top t : ℕ) → size * min top t + size ≤ (top + 1) * size
stratum-fits size top t =
    subst (λ (n : ℕ). size * min top t + size ≤ n) (mul_comm size (top + 1))
    (subst (λ (n : ℕ). n ≤ size * (top + 1)) (mul-add size (min top t) 1 ∙ ap (λ (m : ℕ). size * min top t + m) (mul-one size))
    (mul-le-mul_left size (omega arith)))

-- and begins far below 2^64
pub stratum-low : (size top t : ℕ) → size ≤ 4096 → top ≤ 31 → size * min top t ≤ 126976
stratum-low size top t h k = let u : min top t ≤ 31 = omega arith in mul-le-mul h u

-- ---- a stratum lent alone, from a on: as long as the code writes it

module _ (a size : ℕ) where
  extent : a + size - a ≡ size
  extent = omega arith

module _ (top size a : ℕ) (c : Columns) (w : Wide ((top + 1) * size) c) (h : a + size ≤ (top + 1) * size) where
  within : Wide (a + (a + size - a)) c
  within = wide-less (a + (a + size - a)) ((top + 1) * size) c (omega (arith, h, extent a size)) w

  pub element-wide : Wide size (part_of a (a + size - a) c)
  element-wide = subst (λ (n : ℕ). Wide n (part_of a (a + size - a) c)) (extent a size) (part-wide a (a + size - a) c within)

  pub element-small : (m : ℕ) → Small ((top + 1) * size) m c → Small size m (part_of a (a + size - a) c)
  element-small m s =
      subst (λ (n : ℕ). Small n m (part_of a (a + size - a) c)) (extent a size)
      (part_small a (a + size - a) c within m (small-less (a + (a + size - a)) ((top + 1) * size) m c (omega (arith, h, extent a size)) s))

-- an element added to its stratum, lent alone, was added to all of them
module _ (top k size x a h : ℕ) (c p : Columns) where
  pub element_added : Wide (layered top k size 0).size c → a ≡ size * min top (stratum_of x) → h ≡ crc_of x
      → p ≡ filled size (spread (places k size h) (bucket x h (pos 1)) (view (part_of a (a + size - a) c))) (part_of a (a + size - a) c)
      → with_part a (a + size - a) c p ≡ filled (layered top k size 0).size (spread ((layered top k size 0).places x) (bucket x (crc_of x) (pos 1)) (view c)) c
  element_added w ea eh e =
      spread-part a (a + size - a) ((top + 1) * size) (places k size h) (bucket x h (pos 1)) c p
      (omega (arith, ea, stratum-fits size top (stratum_of x), extent a size)) w (λ i m. omega (arith, places-below crc_next k size h i m, extent a size))
      (e ∙ ap (λ (n : ℕ). filled n (spread (places k size h) (bucket x h (pos 1)) (view (part_of a (a + size - a) c))) (part_of a (a + size - a) c)) (sym (extent a size)))
      ∙ ap₂ (λ (s v : ℕ). filled ((top + 1) * size) (spread (map (λ i. s + i) (places k size v)) (bucket x v (pos 1)) (view c)) c) ea eh
