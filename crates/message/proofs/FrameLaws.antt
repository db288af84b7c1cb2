-- The frame of a message: MSG SIZE and MSG TYPE before its body, read and written back. Assumes nothing.
use mathlib.Core.Path.{◌≡◌, sym, ap, ap₂, ◌∙◌}
use mathlib.Core.List.{List, [], ◌∷◌, ◌++◌, append_assoc, append-nil}
use Prim.Native.Nat.{ℕ, ◌+◌, ◌≤◌, ◌<◌}
use native.Mathlib.Omega.{arith}
use lib.ListN.{length, take, drop, length-append, length-drop}
use Rattle.bucket.specs.Digits.{joined, groups, Below}
use Rattle.bucket.specs.Lists.{part}
use Rattle.bucket.proofs.DigitLaws.{groups-length}
use Rattle.message.specs.Layout.{framed}
use Rattle.message.specs.Reading.{field}
use Rattle.message.proofs.WholeLaws.{packed-cons, packed-nil, field-here, field-there, drop-field, field_back, part-rest}

-- the frame
pub framed_open : (t : ℕ) (body : List ℕ) → framed t body ≡ groups 8 2 (4 + length body) ++ (groups 8 2 t ++ body)
unfolding framed
framed_open t body =
    ap (λ (l : List ℕ). l ++ body) (packed-cons 2 (4 + length body) (t ∷ []) ∙ ap (λ (l : List ℕ). groups 8 2 (4 + length body) ++ l) (packed-cons 2 t [] ∙ ap (λ (l : List ℕ). groups 8 2 t ++ l) (packed-nil 2)))
    ∙ simp (append_assoc, append-nil)

module _ (t : ℕ) (body : List ℕ) where
  pub framed-length : length (framed t body) ≡ 4 + length body
  framed-length = ap length (framed_open t body) ∙ simp (length-append, groups-length) (omega arith)

  pub framed-size : length body ≤ 65531 → field 2 0 (framed t body) ≡ 4 + length body
  framed-size h = ap (field 2 0) (framed_open t body) ∙ field-here 2 (4 + length body) (groups 8 2 t ++ body) (omega arith)

  pub framed_type : t < 65536 → field 2 2 (framed t body) ≡ t
  framed_type h =
      ap (field 2 2) (framed_open t body) ∙ field-there 2 (4 + length body) (groups 8 2 t ++ body) 2 0 ∙ field-here 2 t body h

  -- what stands behind the frame
  pub framed-drop : (at : ℕ) → drop (4 + at) (framed t body) ≡ drop at body
  framed-drop at =
      ap₂ drop four (framed_open t body) ∙ drop-field 2 (4 + length body) (groups 8 2 t ++ body) (2 + at) ∙ drop-field 2 t body at
    where
      four : 4 + at ≡ 2 + (2 + at)
      four = omega arith

pub framed-back : (bs : List ℕ) → Below 8 bs → 4 ≤ length bs → field 2 0 bs ≡ length bs → framed (field 2 2 bs) (drop 4 bs) ≡ bs
framed-back bs h l e =
    framed_open (field 2 2 bs) (drop 4 bs)
    ∙ ap₂ (λ (a b : List ℕ). a ++ (b ++ drop 4 bs)) (ap (groups 8 2) (len ∙ sym e) ∙ field_back 2 0 bs h (omega arith)) (field_back 2 2 bs h (omega arith))
    ∙ ap (λ (q : List ℕ). part 0 2 bs ++ q) (part-rest 2 2 bs)
    ∙ part-rest 0 2 bs
  where
    len : 4 + length (drop 4 bs) ≡ length bs
    len = simp length-drop (omega arith)

pub framed-field : (t k at : ℕ) (body : List ℕ) → field k (4 + at) (framed t body) ≡ field k at body
framed-field t k at body = ap (λ (l : List ℕ). joined 8 (take k l)) (framed-drop t body at)
