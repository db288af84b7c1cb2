-- A list cut into messages, over the number of items a message holds and the bytes that are said of them: none, one message and the rest, the
-- length of all, and the state of a loop that writes one message after the other. Assumes nothing.
use mathlib.Core.Path.{◌≡◌, refl, sym, ap, ap₂, ◌∙◌}
use mathlib.Core.Bool.{Bool, true, false}
use mathlib.Core.List.{List, [], ◌∷◌, ◌++◌, map}
use Prim.Native.Nat.{ℕ, zero, suc, ◌+◌, ◌-◌, ◌*◌, ◌/◌, ◌≤◌, ◌<◌, min}
use native.Mathlib.Nat.{add-div_right, div-eq_of_lt, mul-suc, mul-add, mul-zero}
use native.Mathlib.Numerals.{add-one}
use native.Mathlib.Omega.{arith}
use lib.Dec.{leb}
use lib.ListN.{length, take, drop, length-append, length-take, length-drop}
use lib.Seq.{drop-nil, take-append_seam, drop-append_seam}
use borrow.Author.Tests.{leb-true, leb-false}
use Rattle.bucket.specs.Lists.{over}
use Rattle.bucket.proofs.OverLaws.{over-nil, over-length, over-over, part-min}
use Rattle.message.specs.Layout.{Content, layout}
use Rattle.message.specs.Writing.{layouts, messages, pieces, pieces_of}
use Rattle.message.specs.Putting.{cut_bytes, end_to_end}

-- ---- how many messages

pub messages-none : (k : ℕ) → 1 ≤ k → messages k 0 ≡ 0
messages-none k h = div-eq_of_lt (omega arith)

-- the first message takes as many items as it can
pub messages-more : (k n c : ℕ) → 1 ≤ k → zero < n → c ≡ min k n → messages k n ≡ suc (messages k (n - c))
messages-more k n c h s e = ap (λ (m : ℕ). m / k) first ∙ add-div_right (n - 1) h ∙ add-one ((n - 1) / k) ∙ ap suc (go (leb k n) refl)
  where
    first : n + (k - 1) ≡ n - 1 + k
    first = omega arith

    go : (t : Bool) → leb k n ≡ t → (n - 1) / k ≡ messages k (n - c)
    go true q = let full = leb-true k n q in ap (λ (m : ℕ). m / k) (omega arith)
    go false q = let last = leb-false k n q in div-eq_of_lt (omega arith) ∙ sym (div-eq_of_lt (omega arith))

-- ---- the bytes

drop_min : (k n : ℕ) (l : List ℕ) → n ≡ min k (length l) → drop n l ≡ drop k l
drop_min k n [] e = drop-nil n ∙ sym (drop-nil k)
drop_min zero zero (x ∷ l) e = refl
drop_min (suc k) zero (x ∷ l) e = absurd (omega arith)
drop_min zero (suc n) (x ∷ l) e = absurd (omega arith)
drop_min (suc k) (suc n) (x ∷ l) e = drop_min k n l (omega arith)

pub cut-bytes-more : (k h b n c : ℕ) → 1 ≤ k → zero < n → c ≡ min k n → cut_bytes k h b n ≡ h + b * c + cut_bytes k h b (n - c)
cut-bytes-more k h b n c s z e =
    ap₂ (λ (m q : ℕ). h * m + b * q) (messages-more k n c s z e) split
    ∙ ap₂ (λ (x y : ℕ). x + y) (mul-suc h (messages k (n - c))) (mul-add b c (n - c))
    ∙ turned (h * messages k (n - c)) (b * c) (b * (n - c))
  where
    split : n ≡ c + (n - c)
    split = omega arith

    turned : (x y z : ℕ) → x + h + (y + z) ≡ h + y + (x + z)
    turned x y z = omega arith

module _ (k : ℕ) (say : List ℕ → List ℕ) (some : 1 ≤ k) where
  pub cut-none : (l : List ℕ) → length l ≡ 0 → end_to_end say (pieces k l) ≡ []
  unfolding end_to_end pieces_of
  cut-none l e = ap (λ (m : ℕ). end_to_end say (pieces_of k m l)) (ap (messages k) e ∙ messages-none k some)

  -- one message, and the rest
  pub cut_step : (l : List ℕ) (n : ℕ) → zero < length l → n ≡ min k (length l) → end_to_end say (pieces k l) ≡ say (take n l) ++ end_to_end say (pieces k (drop n l))
  unfolding end_to_end pieces_of
  cut_step l n z e =
      ap (λ (m : ℕ). end_to_end say (pieces_of k m l)) (messages-more k (length l) n some z e)
      ∙ ap₂ (λ (a c : List ℕ). say a ++ end_to_end say (pieces_of k (messages k (length l - n)) c)) (sym (part-min 0 k n l (omega arith))) (sym (drop_min k n l e))
      ∙ ap (λ (m : ℕ). say (take n l) ++ end_to_end say (pieces_of k (messages k m) (drop n l))) (sym (length-drop n l))

  module _ (h b : ℕ) (sized : (l : List ℕ) → length (say l) ≡ h + b * length l) where
    pub cut-length : (l : List ℕ) → length (end_to_end say (pieces k l)) ≡ cut_bytes k h b (length l)
    cut-length l = go (length l) l (omega arith)
      where
        empty : (l : List ℕ) → length l ≡ 0 → length (end_to_end say (pieces k l)) ≡ cut_bytes k h b (length l)
        empty l e =
            ap length (cut-none l e)
            ∙ sym (ap (cut_bytes k h b) e ∙ ap₂ (λ (x y : ℕ). x + y) (ap (λ (m : ℕ). h * m) (messages-none k some) ∙ mul-zero h) (mul-zero b))

        go : (fuel : ℕ) (l : List ℕ) → length l ≤ fuel → length (end_to_end say (pieces k l)) ≡ cut_bytes k h b (length l)
        go zero l f = empty l (omega arith)
        go (suc fuel) [] f = empty [] refl
        go (suc fuel) (x ∷ l) f =
            ap length (cut_step (x ∷ l) n (omega arith) refl)
            ∙ length-append (say (take n (x ∷ l))) (end_to_end say (pieces k (drop n (x ∷ l))))
            ∙ ap₂ (λ (p q : ℕ). p + q) (sized (take n (x ∷ l)) ∙ ap (λ (m : ℕ). h + b * m) taken)
            (go fuel (drop n (x ∷ l)) (omega (arith, rest)) ∙ ap (cut_bytes k h b) rest)
            ∙ sym (cut-bytes-more k h b (suc (length l)) n some (omega arith) refl)
          where
            n : ℕ
            n = min k (suc (length l))

            taken : length (take n (x ∷ l)) ≡ n
            taken = length-take n (x ∷ l) ∙ omega arith

            rest : length (drop n (x ∷ l)) ≡ suc (length l) - n
            rest = length-drop n (x ∷ l)

-- ---- the state of a loop: what is left of l, written from p on, gives the whole

pub record Cutting (k h b : ℕ) (say : List ℕ → List ℕ) (at : ℕ) (l out₀ out : List ℕ) (p : ℕ) (rest : List ℕ) : Type 0 where
  pub same : length out ≡ length out₀
  pub room : p + cut_bytes k h b (length rest) ≤ length out
  pub left : over p (end_to_end say (pieces k rest)) out ≡ over at (end_to_end say (pieces k l)) out₀

pub cutting_start : (k h b : ℕ) (say : List ℕ → List ℕ) (at : ℕ) (l out : List ℕ) → at + cut_bytes k h b (length l) ≤ length out → Cutting k h b say at l out out at l
cutting_start k h b say at l out room = record { same = refl; room = room; left = refl }

module _ {k h b : ℕ} {say : List ℕ → List ℕ} {at : ℕ} {l out₀ out : List ℕ} {p : ℕ} {rest : List ℕ} (some : 1 ≤ k) (c : Cutting k h b say at l out₀ out p rest) where
  module _ (a behind : List ℕ) (cut : rest ≡ a ++ behind) (e : length a ≡ min k (length rest)) (z : zero < length rest) where
    -- room for one message, and the rest
    pub cutting_room : p + (h + b * length a) + cut_bytes k h b (length behind) ≤ length out
    cutting_room =
        let more = cut-bytes-more k h b (length rest) (length a) some z e in
        let less : length behind ≡ length rest - length a = omega (arith, ap length cut ∙ length-append a behind) in
        rw less (sums p (h + b * length a) _ _ _ more c.room)
      where
        sums : (p x y z o : ℕ) → z ≡ x + y → p + z ≤ o → p + x + y ≤ o
        sums p x y z o e f = omega arith

    -- one message more
    pub cutting_next : ((l : List ℕ) → length (say l) ≡ h + b * length l) → {out' : List ℕ} {p' : ℕ} → p' ≡ p + (h + b * length a) → out' ≡ over p (say a) out
        → Cutting k h b say at l out₀ out' p' behind
    cutting_next sized {out'} ep o =
        record {
          same = same ∙ c.same;
          room = rw (same, ep) cutting_room;
          left =
              ap₂ (λ (q : ℕ) (m : List ℕ). over q (end_to_end say (pieces k behind)) m) (ep ∙ ap (λ (q : ℕ). p + q) (sym (sized a))) o
              ∙ over-over p out (say a) (end_to_end say (pieces k behind)) (rw (sized a, cut-length k say some h b sized) cutting_room)
              ∙ ap (λ (q : List ℕ). over p q out) (sym whole)
              ∙ c.left;
        }
      where
        same : length out' ≡ length out
        same = ap length o ∙ over-length p out (say a) (omega (arith, sized a, cutting_room))

        first : take (length a) rest ≡ a
        first = ap (take (length a)) cut ∙ take-append_seam a behind

        others : drop (length a) rest ≡ behind
        others = ap (drop (length a)) cut ∙ drop-append_seam a behind

        whole : end_to_end say (pieces k rest) ≡ say a ++ end_to_end say (pieces k behind)
        whole = cut_step k say some rest (length a) z e ∙ ap₂ (λ (x y : List ℕ). say x ++ end_to_end say (pieces k y)) first others

  pub cutting_end : length rest ≡ zero → out ≡ over at (end_to_end say (pieces k l)) out₀
  cutting_end z = sym (ap (λ (q : List ℕ). over p q out) (cut-none k say some rest z) ∙ over-nil p out) ∙ c.left

-- ---- messages end to end

pub layouts-map : (say : List ℕ → Content) (lay : List ℕ → List ℕ) → ((l : List ℕ) → layout (say l) ≡ lay l) → (ps : List (List ℕ)) → layouts (map say ps) ≡ end_to_end lay ps
unfolding layouts end_to_end
layouts-map say lay e [] = refl
layouts-map say lay e (l ∷ ps) = ap₂ (λ (a b : List ℕ). a ++ b) (e l) (layouts-map say lay e ps)
