-- Hashes and their bytes: the hashes of bytes, packed, are the bytes again, so a message of bytes is one of their hashes; and those of bytes end to end.
-- Assumes nothing.
use mathlib.Core.Path.{◌≡◌, refl, sym, ap, ◌∙◌}
use mathlib.Core.Bool.{Bool, true, false}
use mathlib.Core.List.{List, ◌++◌}
use Prim.Native.Nat.{ℕ, ◌+◌, ◌-◌, ◌*◌, ◌/◌, ◌%◌, ◌≤◌, ◌<◌}
use native.Mathlib.Omega.{arith}
use borrow.Author.Tests.{ltb-true, ltb-false}
use lib.Dec.{ltb}
use lib.ListN.{length, take, drop, get_or, get_or-append, length-append, length-drop, take-append-drop}
use lib.Seq.{ext_get_or, drop-append-add, take_at, drop_at, length-take-le}
use Rattle.std.proofs.lemmas.List.{take-append-le, drop-append-le, get_or-append_right}
use Rattle.bucket.specs.Digits.{joined, packed, unpacked, Below}
use Rattle.bucket.specs.Lists.{part}
use Rattle.bucket.proofs.DigitLaws.{groups-length}
use Rattle.bucket.proofs.OverLaws.{part_length}
use Rattle.filter.specs.Table.{hashes_of}
use Rattle.filter.proofs.TableLaws.{hashes-length, hash_at_lem}
use Rattle.message.specs.Layout.{framed}
use Rattle.message.specs.Putting.{framed_hashes}
use Rattle.message.proofs.FrameLaws.{framed-length}
use Rattle.message.proofs.WholeLaws.{whole_length, whole_back, item, packed-append}

-- a part of numbers of k bytes each
pub packed-part : (k i n : ℕ) (xs : List ℕ) → i + n ≤ length xs → part (k * i) (k * n) (packed (8 * k) xs) ≡ packed (8 * k) (part i n xs)
packed-part k i n xs h =
    ap (part (k * i) (k * n)) (ap (packed (8 * k)) (sym (take-append-drop i xs)) ∙ packed-append k (take i xs) (drop i xs))
    ∙ ap (take (k * n)) (drop_at (packed (8 * k) (take i xs)) (packed (8 * k) (drop i xs)) (k * i) front)
    ∙ ap (take (k * n)) (ap (packed (8 * k)) (sym (take-append-drop n (drop i xs))) ∙ packed-append k (part i n xs) (drop n (drop i xs)))
    ∙ take_at (packed (8 * k) (part i n xs)) (packed (8 * k) (drop n (drop i xs))) (k * n) here
  where
    front : length (packed (8 * k) (take i xs)) ≡ k * i
    front = whole_length k (take i xs) ∙ ap (λ (m : ℕ). k * m) (length-take-le i xs (omega arith))

    here : length (packed (8 * k) (part i n xs)) ≡ k * n
    here = whole_length k (part i n xs) ∙ ap (λ (m : ℕ). k * m) (part_length i xs n h)

-- the hashes of whole hashes with others behind them
pub hashes-append : (a b : List ℕ) → length a % 64 ≡ 0 → hashes_of (a ++ b) ≡ hashes_of a ++ hashes_of b
hashes-append a b whole = ext_get_or 0 (hashes_of (a ++ b)) (hashes_of a ++ hashes_of b) both each
  where
    both : length (hashes_of (a ++ b)) ≡ length (hashes_of a ++ hashes_of b)
    both =
        hashes-length (a ++ b) ∙ omega (arith, length-append a b, length-append (hashes_of a) (hashes_of b), hashes-length a, hashes-length b)

    each : (i : ℕ) → i < length (hashes_of (a ++ b)) → get_or (hashes_of (a ++ b)) i 0 ≡ get_or (hashes_of a ++ hashes_of b) i 0
    each i h = hash_at_lem (a ++ b) i there ∙ go (ltb i (length a / 64)) refl
      where
        there : i < length (a ++ b) / 64
        there = rw (hashes-length (a ++ b)) at h

        go : (t : Bool) → ltb i (length a / 64) ≡ t → joined 8 (part (64 * i) 64 (a ++ b)) ≡ get_or (hashes_of a ++ hashes_of b) i 0
        go true q =
            let front = ltb-true i (length a / 64) q in
            ap (λ (l : List ℕ). joined 8 (take 64 l)) (drop-append-le (64 * i) a b (omega arith))
            ∙ ap (joined 8) (take-append-le 64 (drop (64 * i) a) b (omega (arith, length-drop (64 * i) a)))
            ∙ sym (get_or-append (hashes_of a) (hashes_of b) 0 i (omega (arith, hashes-length a)) ∙ hash_at_lem a i front)
        go false q =
            let behind = ltb-false i (length a / 64) q in
            let j = i - length a / 64 in
            let start : 64 * i ≡ length a + 64 * j = omega arith in
            ap (λ (n : ℕ). joined 8 (part n 64 (a ++ b))) start
            ∙ ap (λ (l : List ℕ). joined 8 (take 64 l)) (drop-append-add a b (64 * j))
            ∙ sym (get_or-append_right (hashes_of a) (hashes_of b) (length a / 64) i 0 (hashes-length a) behind ∙ hash_at_lem b j (omega (arith, there, length-append a b)))

module _ (t : List ℕ) (below : Below 8 t) (whole : length t % 64 ≡ 0) where
  long : length t ≡ 64 * (length t / 64)
  long = omega arith

  hashes-unpacked : hashes_of t ≡ unpacked 512 (length t / 64) t
  unfolding unpacked
  hashes-unpacked =
      ext_get_or 0 (hashes_of t) (unpacked 512 (length t / 64) t) (hashes-length t ∙ sym (groups-length 512 (length t / 64) _))
      (λ i h. let there = rw (hashes-length t) at h in hash_at_lem t i there ∙ sym (item 64 (length t / 64) t i there long))

  pub hashes-packed : packed 512 (hashes_of t) ≡ t
  hashes-packed = ap (packed 512) hashes-unpacked ∙ whole_back 64 (length t / 64) t long below

  pub hashes-part : (i n : ℕ) → i + n ≤ length t / 64 → packed 512 (part i n (hashes_of t)) ≡ part (64 * i) (64 * n) t
  hashes-part i n h =
      sym (packed-part 64 i n (hashes_of t) (rw (hashes-length t) h)) ∙ ap (part (64 * i) (64 * n)) hashes-packed

  pub framed-part : (kind i n : ℕ) → i + n ≤ length t / 64 → framed kind (part (64 * i) (64 * n) t) ≡ framed_hashes kind (part i n (hashes_of t))
  unfolding framed_hashes
  framed-part kind i n h = ap (framed kind) (sym (hashes-part i n h))

  pub framed-whole : (kind : ℕ) → framed kind t ≡ framed_hashes kind (hashes_of t)
  unfolding framed_hashes
  framed-whole kind = ap (framed kind) (sym hashes-packed)

pub framed-hashes-length : (kind : ℕ) (hs : List ℕ) → length (framed_hashes kind hs) ≡ 4 + 64 * length hs
unfolding framed_hashes
framed-hashes-length kind hs = framed-length kind (packed 512 hs) ∙ ap (λ (n : ℕ). 4 + n) (whole_length 64 hs)
