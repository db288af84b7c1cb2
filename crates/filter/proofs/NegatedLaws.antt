-- Laws of `negated`: counts with their signs turned one after another, what that makes of the columns, and that the turned counts are as small as before. Assumes nothing.
use mathlib.Core.Path.{◌≡◌, refl, sym, ap, ap₂, ◌∙◌}
use mathlib.Core.Bool.{Bool, true, false}
use mathlib.Core.List.{List, ◌++◌}
use Prim.Native.Nat.{ℕ, zero, suc, ◌+◌, ◌^◌, ◌≤◌, ◌<◌, zero-le}
use native.Mathlib.Numerals.{add-one}
use native.Mathlib.Omega.{arith}
use borrow.Author.Tests.{eqb-true, eqb-false}
use lib.Dec.{eqb}
use lib.IntN.{ℤ, pos, negsuc, neg_ℤ, nat_abs, ◌-ℤ◌}
use lib.ListN.{length, get_or, set, take, drop, length-set, length-take, take-append-drop}
use lib.Seq.{set-get_or, get_or-set_same, get_or-set_other, get_or-take, set-append_left}
use mir.Syntax.{w64}
use mir.Val.{SFits, to_z, of_z}
use Rattle.bucket.specs.Bucket.{neg}
use Rattle.bucket.specs.Columns.{Columns, columns, view, place}
use Rattle.bucket.proofs.SmallLaws.{small-minus, small-minus-fits}
use Rattle.filter.specs.Calls.{filled}
use Rattle.filter.specs.Steps.{Small, negated}
use Rattle.filter.proofs.SpreadLaws.{abs_small}

-- one sign

pub abs_neg : (z : ℤ) → nat_abs (neg_ℤ z) ≡ nat_abs z
abs_neg (pos zero) = refl
abs_neg (pos (suc n)) = refl
abs_neg (negsuc n) = refl

-- many signs

pub negated-length : (n : ℕ) (cs : List ℤ) → length (negated n cs) ≡ length cs
unfolding negated
negated-length zero cs = refl
negated-length (suc n) cs = length-set (negated n cs) n (neg_ℤ (get_or cs n (pos 0))) ∙ negated-length n cs

pub negated-out : (n : ℕ) (cs : List ℤ) (i : ℕ) → n ≤ i → get_or (negated n cs) i (pos 0) ≡ get_or cs i (pos 0)
unfolding negated
negated-out zero cs i h = refl
negated-out (suc n) cs i h =
    get_or-set_other (negated n cs) n i (neg_ℤ (get_or cs n (pos 0))) (pos 0) (λ e. omega (arith, e, h)) ∙ negated-out n cs i (omega arith)

pub negated_in : (n : ℕ) (cs : List ℤ) (i : ℕ) → n ≤ length cs → i < n → get_or (negated n cs) i (pos 0) ≡ neg_ℤ (get_or cs i (pos 0))
unfolding negated
negated_in zero cs i w h = absurd (omega arith)
negated_in (suc n) cs i w h = go (eqb i n) refl (negated_in n cs i (omega arith))
  where
    go : (t : Bool) → eqb i n ≡ t → (i < n → get_or (negated n cs) i (pos 0) ≡ neg_ℤ (get_or cs i (pos 0)))
        → get_or (set (negated n cs) n (neg_ℤ (get_or cs n (pos 0)))) i (pos 0) ≡ neg_ℤ (get_or cs i (pos 0))
    go true e ih =
        ap (λ (m : ℕ). get_or (set (negated n cs) n (neg_ℤ (get_or cs n (pos 0)))) m (pos 0)) (eqb-true i n e)
        ∙ get_or-set_same (negated n cs) n (neg_ℤ (get_or cs n (pos 0))) (pos 0) (omega (arith, w, negated-length n cs))
        ∙ ap (λ (m : ℕ). neg_ℤ (get_or cs m (pos 0))) (sym (eqb-true i n e))
    go false e ih =
        let ne = eqb-false i n e in
        get_or-set_other (negated n cs) n i (neg_ℤ (get_or cs n (pos 0))) (pos 0) ne ∙ ih (omega (arith, h, ne))

-- turned in the part that is lent alone
pub negated-part : (m n : ℕ) (cs : List ℤ) → m ≤ n → n ≤ length cs → negated m (take n cs) ++ drop n cs ≡ negated m cs
unfolding negated
negated-part zero n cs h w = take-append-drop n cs
negated-part (suc m) n cs h w =
    sym (set-append_left (negated m (take n cs)) (drop n cs) m (neg_ℤ (get_or (take n cs) m (pos 0))) (omega (arith, negated-length m (take n cs), length-take n cs)))
    ∙ ap₂ (λ (l : List ℤ) (z : ℤ). set l m (neg_ℤ z)) (negated-part m n cs (omega arith) w) (get_or-take n cs m (pos 0) h)

-- a loop that turns one sign after another

pub record Turned (n : ℕ) (cs₀ cs : List ℤ) (i : ℕ) : Type 0 where
  pub within : i ≤ n
  pub turned : cs ≡ negated i cs₀

pub turned-start : (n : ℕ) (cs : List ℤ) → Turned n cs cs 0
unfolding negated
turned-start n cs = record { within = zero-le; turned = refl }

module _ (n : ℕ) (cs₀ cs : List ℤ) (i : ℕ) (k : Turned n cs₀ cs i) where
  pub turned-end : n ≤ i → cs ≡ negated n cs₀
  turned-end h = k.turned ∙ ap (λ (m : ℕ). negated m cs₀) (omega (arith, h, k.within))

  module _ (h : i < n) (small : nat_abs (get_or cs₀ i (pos 0)) < 2 ^ 61) where
    old : get_or cs i (pos 0) ≡ get_or cs₀ i (pos 0)
    old = ap (λ (l : List ℤ). get_or l i (pos 0)) k.turned ∙ negated-out i cs₀ i (omega arith)

    pub turned-fits-next : SFits w64 (pos 0 -ℤ to_z w64 (of_z w64 (get_or cs i (pos 0))))
    turned-fits-next = rw old (small-minus-fits (get_or cs₀ i (pos 0)) (abs_small (get_or cs₀ i (pos 0)) small))

    pub turned-next : Turned n cs₀ (set cs i (to_z w64 (of_z w64 (pos 0 -ℤ to_z w64 (of_z w64 (get_or cs i (pos 0))))))) (i + 1)
    unfolding negated
    turned-next = record {
      within = omega arith;
      turned = ap₂ (λ (l : List ℤ) (z : ℤ). set l i z) k.turned
          (ap (λ (z : ℤ). to_z w64 (of_z w64 (pos 0 -ℤ to_z w64 (of_z w64 z)))) old ∙ small-minus (get_or cs₀ i (pos 0)) (abs_small (get_or cs₀ i (pos 0)) small))
          ∙ ap (λ (m : ℕ). negated m cs₀) (sym (add-one i));
    }

-- the columns whose counts are turned: the XOR sums are their own opposites

same-columns : {is is' hs hs' : List ℕ} {cs : List ℤ} → is ≡ is' → hs ≡ hs' → columns is hs cs ≡ columns is' hs' cs
same-columns {cs = cs} p q = λ k. columns (p k) (q k) cs

pub negated-filled : (n : ℕ) (is hs : List ℕ) (cs : List ℤ)
    → columns is hs (negated n cs) ≡ filled n (λ i. neg (view (columns is hs cs) i)) (columns is hs cs)
unfolding negated filled place neg view
negated-filled zero is hs cs = refl
negated-filled (suc n) is hs cs =
    sym (same-columns {cs = set (negated n cs) n (neg_ℤ (get_or cs n (pos 0)))} (set-get_or is n 0) (set-get_or hs n 0))
    ∙ ap (λ (d : Columns). place d n (neg (view (columns is hs cs) n))) (negated-filled n is hs cs)

pub negated-small : (n m : ℕ) (is hs : List ℕ) (cs : List ℤ) → n ≤ length cs → Small n m (columns is hs cs) → Small n m (columns is hs (negated n cs))
negated-small n m is hs cs w s = record {
  all = λ i h. rw (negated_in n cs i w h, abs_neg (get_or cs i (pos 0))) (s.all i h);
}
