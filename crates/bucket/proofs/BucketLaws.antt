-- Buckets are a commutative group, and the test for zero is exact. Assumes nothing.
use mathlib.Core.Path.{◌≡◌, refl, sym, ap, ◌∙◌}
use mathlib.Core.Bool.{true, and-eq-true_iff}
use Prim.Native.Nat.{ℕ, zero, suc}
use borrow.Author.Tests.{eqb-true}
use lib.Bits.{xor_comm, xor_self, xor_zero_l}
use lib.Dec.{eqb}
use lib.IntN.{ℤ, pos, negsuc, neg_ℤ-neg_ℤ, +ℤ_assoc, +ℤ_comm, +ℤ_idl, +ℤ_invl}
use Rattle.bucket.specs.Bucket.{Bucket, bucket, ◌⊕◌, neg, 𝟎, is_zero_ℤ, is_zero}
use Rattle.bucket.proofs.XorLaws.{xor_assoc}

-- three columns at once
pub bucket-same : {i i' h h' : ℕ} {c c' : ℤ} → i ≡ i' → h ≡ h' → c ≡ c' → bucket i h c ≡ bucket i' h' c'
bucket-same p q r = λ k. bucket (p k) (q k) (r k)

pub ⊕-assoc : (a b c : Bucket) → (a ⊕ b) ⊕ c ≡ a ⊕ (b ⊕ c)
unfolding ◌⊕◌
⊕-assoc a b c =
    bucket-same (xor_assoc a.idsum b.idsum c.idsum) (xor_assoc a.hashsum b.hashsum c.hashsum)
    (+ℤ_assoc a.count b.count c.count)

pub ⊕-comm : (a b : Bucket) → a ⊕ b ≡ b ⊕ a
unfolding ◌⊕◌
⊕-comm a b =
    bucket-same (xor_comm a.idsum b.idsum) (xor_comm a.hashsum b.hashsum) (+ℤ_comm a.count b.count)

pub ⊕-idl : (a : Bucket) → 𝟎 ⊕ a ≡ a
unfolding ◌⊕◌ 𝟎
⊕-idl a = bucket-same (xor_zero_l a.idsum) (xor_zero_l a.hashsum) (+ℤ_idl a.count)

pub ⊕-invl : (a : Bucket) → (neg a) ⊕ a ≡ 𝟎
unfolding ◌⊕◌ 𝟎 neg
⊕-invl a = bucket-same (xor_self a.idsum) (xor_self a.hashsum) (+ℤ_invl a.count)

pub neg-neg : (a : Bucket) → neg (neg a) ≡ a
unfolding neg
neg-neg a = bucket-same refl refl (neg_ℤ-neg_ℤ a.count)

pub neg-𝟎 : neg 𝟎 ≡ 𝟎
unfolding 𝟎 neg
neg-𝟎 = refl

-- what follows from the group laws alone

pub ⊕-idr : (a : Bucket) → a ⊕ 𝟎 ≡ a
⊕-idr a = ⊕-comm a 𝟎 ∙ ⊕-idl a

pub ⊕-left-comm : (a b c : Bucket) → a ⊕ (b ⊕ c) ≡ b ⊕ (a ⊕ c)
⊕-left-comm a b c = sym (⊕-assoc a b c) ∙ ap (λ (x : Bucket). x ⊕ c) (⊕-comm a b) ∙ ⊕-assoc b a c

pub neg_cancel : (a b : Bucket) → (neg a) ⊕ (a ⊕ b) ≡ b
neg_cancel a b = sym (⊕-assoc (neg a) a b) ∙ ap (λ (x : Bucket). x ⊕ b) (⊕-invl a) ∙ ⊕-idl b

pub neg_then : (a b : Bucket) → (a ⊕ neg b) ⊕ b ≡ a
neg_then a b = ⊕-assoc a (neg b) b ∙ ap (λ (x : Bucket). a ⊕ x) (⊕-invl b) ∙ ⊕-idr a

pub then_neg : (a b : Bucket) → (a ⊕ b) ⊕ neg b ≡ a
then_neg a b = ap (λ (x : Bucket). (a ⊕ x) ⊕ neg b) (sym (neg-neg b)) ∙ neg_then a (neg b)

pub ⊕-cancel : (a b c : Bucket) → a ⊕ b ≡ a ⊕ c → b ≡ c
⊕-cancel a b c e = sym (neg_cancel a b) ∙ ap (λ (x : Bucket). (neg a) ⊕ x) e ∙ neg_cancel a c

pub ⊕-cancel-r : (a b c : Bucket) → a ⊕ c ≡ b ⊕ c → a ≡ b
⊕-cancel-r a b c e = ⊕-cancel c a b (⊕-comm c a ∙ e ∙ ⊕-comm b c)

-- for simp: sums of buckets up to order (it cancels nothing: state equations without `neg`)
pub ruleset sums = (⊕-assoc, ⊕-comm, ⊕-left-comm, ⊕-idl, ⊕-idr)

pub ⊕-four : (a b c d : Bucket) → (a ⊕ b) ⊕ (c ⊕ d) ≡ (a ⊕ c) ⊕ (b ⊕ d)
⊕-four a b c d = simp sums

pub ⊕-right-comm : (a b c : Bucket) → (a ⊕ b) ⊕ c ≡ (a ⊕ c) ⊕ b
⊕-right-comm a b c = simp sums

-- the test for zero

is_zeroℤ_true : (z : ℤ) → is_zero_ℤ z ≡ true → z ≡ pos 0
is_zeroℤ_true (pos zero) e = refl
is_zeroℤ_true (pos (suc n)) e = cc
is_zeroℤ_true (negsuc n) e = cc

pub is_zero_true : (b : Bucket) → is_zero b ≡ true → b ≡ 𝟎
unfolding is_zero 𝟎
is_zero_true b e =
    let ids = (and-eq-true_iff (eqb b.idsum 0) _).0 e in
    let rest = (and-eq-true_iff (eqb b.hashsum 0) _).0 ids.1 in
    bucket-same (eqb-true b.idsum 0 ids.0) (eqb-true b.hashsum 0 rest.0) (is_zeroℤ_true b.count rest.1)

pub is_zero_zero : is_zero 𝟎 ≡ true
unfolding is_zero 𝟎
is_zero_zero = refl
