-- Numbers put into a buffer: one where there is room for it, and one after another. Assumes nothing.
use mathlib.Core.Path.{◌≡◌, refl, sym, ap, ◌∙◌}
use mathlib.Core.List.{List}
use Prim.Native.Nat.{ℕ, ◌+◌, ◌*◌, ◌≤◌, ◌<◌}
use native.Mathlib.Omega.{arith}
use lib.ListN.{length, get_or, take}
use lib.Seq.{take-suc, take_all, length-take-le}
use native.Mathlib.Numerals.{add-one}
use borrow.Author.Tests.{le-leb}
use Rattle.bucket.specs.Digits.{groups, packed, put_into}
use Rattle.bucket.specs.Lists.{over}
use Rattle.bucket.proofs.DigitLaws.{groups-length}
use Rattle.bucket.proofs.OverLaws.{over-nil, over-length, then_over}
use Rattle.bucket.proofs.RoomLaws.{bits_ahead}
use Rattle.bucket.proofs.TestLaws.{and_holds, cond-made}
use Rattle.message.proofs.WholeLaws.{packed-nil, packed_snoc, whole_length}

pub put-there : (at k x : ℕ) (s : List ℕ) → k ≤ 8 → at + k ≤ length s → put_into at k x s ≡ over at (groups 8 k x) s
unfolding put_into
put-there at k x s h l = sym (cond-made (over at (groups 8 k x) s) s (and_holds (le-leb k 8 h) (le-leb (at + k) (length s) l)))

-- the state of a loop that puts numbers of k bytes each: the first j of xs have been put
pub record Put (k at : ℕ) (xs out₀ : List ℕ) (out : List ℕ) (j : ℕ) : Type 0 where
  pub same : length out ≡ length out₀
  pub done : out ≡ over at (packed (8 * k) (take j xs)) out₀

module _ (k at : ℕ) (xs out₀ : List ℕ) where
  pub put-start : Put k at xs out₀ out₀ 0
  put-start = record {
    same = refl;
    done = sym (ap (λ (q : List ℕ). over at q out₀) (packed-nil k) ∙ over-nil at out₀);
  }

  -- number j fits behind those before it, where there is room for them all
  pub put-room : {j : ℕ} → j < length xs → at + k * length xs ≤ length out₀ → at + k * j + k ≤ length out₀
  put-room {j} h room = let ahead = bits_ahead k (length xs) j h in omega arith

  pub put_next : {out out' : List ℕ} {j : ℕ} → Put k at xs out₀ out j → k ≤ 8 → j < length xs → at + k * length xs ≤ length out₀
      → out' ≡ put_into (at + k * j) k (get_or xs j 0) out → Put k at xs out₀ out' (j + 1)
  put_next {out} {out'} {j} p few there room e =
      record {
        same = ap length here ∙ over-length (at + k * j) out (groups 8 k x) (omega (arith, digits, fits)) ∙ p.same;
        done =
            then_over at out₀ (packed (8 * k) front) (groups 8 k x) p.done here (omega (arith, size)) (omega (arith, put-room there room, digits))
            ∙ ap (λ (q : List ℕ). over at q out₀) (sym (ap (packed (8 * k)) (rw add-one (take-suc xs j 0 there)) ∙ packed_snoc k front x));
      }
    where
      front : List ℕ
      front = take j xs

      x : ℕ
      x = get_or xs j 0

      size : length (packed (8 * k) front) ≡ k * j
      size = whole_length k front ∙ ap (λ (n : ℕ). k * n) (length-take-le j xs (omega arith))

      digits : length (groups 8 k x) ≡ k
      digits = groups-length 8 k x

      fits : at + k * j + k ≤ length out
      fits = omega (arith, p.same, put-room there room)

      here : out' ≡ over (at + k * j) (groups 8 k x) out
      here = e ∙ put-there (at + k * j) k x out few fits

  pub put-end : {out : List ℕ} {j : ℕ} → Put k at xs out₀ out j → length xs ≤ j → out ≡ over at (packed (8 * k) xs) out₀
  put-end {j = j} p end = p.done ∙ ap (λ (q : List ℕ). over at (packed (8 * k) q) out₀) (take_all j xs end)
