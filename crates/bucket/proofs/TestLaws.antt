-- What tests say of what they chose, and of each other. Assumes nothing.
use mathlib.Core.Path.{◌≡◌, refl, sym, ap, ◌∙◌}
use mathlib.Core.Bool.{Bool, true, false, not, ◌&&◌, cond}
use Prim.Native.Nat.{ℕ, ◌+◌, ◌-◌, ◌≤◌, ◌<◌}
use native.Mathlib.Omega.{arith}
use lib.Dec.{leb}
use borrow.Author.Count.{below_more}
use borrow.Author.Tests.{not-true, not-false, leb-true, leb-false, le-leb, lt-leb}

pub and_fails : (a : Bool) {b : Bool} → b ≡ false → a && b ≡ false
and_fails true h = h
and_fails false h = refl

pub and_holds : {a b : Bool} → a ≡ true → b ≡ true → a && b ≡ true
and_holds {b = b} h k = ap (λ (t : Bool). t && b) h ∙ k

pub cond-kept : {A : Type 0} {t : Bool} (x y : A) → t ≡ false → y ≡ cond t x y
cond-kept x y h = sym (ap (λ (t : Bool). cond t x y) h)

pub cond-made : {A : Type 0} {t : Bool} (x y : A) → t ≡ true → x ≡ cond t x y
cond-made x y h = sym (ap (λ (t : Bool). cond t x y) h)

-- a test that the code made and branched on
pub test_refused : {r t : Bool} → r ≡ t → not r ≡ true → t ≡ false
test_refused {r} e h = sym e ∙ not-true r h

pub test_granted : {r t : Bool} → r ≡ t → not r ≡ false → t ≡ true
test_granted {r} e h = sym e ∙ not-false r h

-- what holds below j, and at j: the library's, under the name that the crates above cite
pub each_more : (P : ℕ → Type 0) (j : ℕ) → ((k : ℕ) → k < j → P k) → P j → (k : ℕ) → k < j + 1 → P k
each_more = below_more

-- a difference that does not fall below zero, or a sum that does not wrap
pub leb_move : (a b c : ℕ) → b ≤ c → leb a (c - b) ≡ leb (a + b) c
leb_move a b c h = go (leb a (c - b)) refl
  where
    go : (t : Bool) → leb a (c - b) ≡ t → leb a (c - b) ≡ leb (a + b) c
    go true e = e ∙ sym (le-leb (a + b) c (omega (arith, leb-true a (c - b) e)))
    go false e = e ∙ sym (lt-leb (a + b) c (omega (arith, leb-false a (c - b) e)))
