-- What is known of bytes once they are read: how many there are, by the numbers that were read, and of a slice all that was tried. Assumes nothing.
use mathlib.Core.Path.{◌≡◌, refl, sym, ap, ◌∙◌, subst}
use mathlib.Core.Bool.{Bool, true, false, ◌&&◌, ◌||◌, cond}
use mathlib.Core.List.{List}
use Prim.Native.Nat.{ℕ, ◌+◌, ◌-◌, ◌*◌, ◌/◌, ◌%◌, ◌≤◌, ◌<◌}
use native.Mathlib.Omega.{arith}
use borrow.Author.Tests.{leb-true, eqb-true, eqb-false}
use lib.Dec.{eqb, ltb, leb}
use lib.ListN.{length}
use Rattle.std.proofs.Common.{Option, Some, None}
use Rattle.bucket.specs.Digits.{bytes_for, spare_bits}
use Rattle.bucket.specs.Lists.{part}
use Rattle.bucket.specs.Packing.{takes, is_bare}
use Rattle.bucket.proofs.ListLaws.{or_false_r}
use Rattle.message.specs.declared.kinds.Message.{Message}
use Rattle.message.specs.declared.kinds.Message.TheVariants.{Ibf, IbfLast, Inquiry, Offer, Demand, Element, Done}
use Rattle.message.specs.declared.kinds.Slice.{Slice}
use Rattle.message.specs.Layout.{DEMAND, INQUIRY, OFFER, IBF, ELEMENT, IBF_LAST, DONE, in_slice, slice_bytes, slice_good}
use Rattle.message.specs.Reading.{field, slice_fits, slice_head, slice_with, hashes_fit, parse, parse_body, parse_slice, parse_inquiry}
use Rattle.message.proofs.ReadLaws.{both, Ranges, slice-ranges}

-- what holds of whichever way a test goes holds of what it picks
pub choose : {A : Type 0} (P : A → Type 0) (b : Bool) {x y : A} → (b ≡ true → P x) → (b ≡ false → P y) → P (cond b x y)
choose P true f g = f refl
choose P false f g = g refl

-- bytes that were read as a slice of the type: its ranges, its buckets, its bytes, and its spare bits
pub record Sliced (bs : List ℕ) (type : ℕ) (s : Slice) : Type 0 where
  pub good : slice_good s.size s.offset s.salt s.width ≡ true
  pub fit : Ranges type s.size s.offset s.salt s.width (length bs)
  pub number : s.count ≡ in_slice s.size s.offset
  pub few : s.count ≤ 2520
  pub all : length bs ≡ slice_bytes s.width s.count
  pub bare : is_bare s.width s.count (16 + 12 * s.count) bs ≡ true

abbrev pub Shape : List ℕ → Message → Type 0
Shape bs (Ibf s) = Sliced bs IBF s
Shape bs (IbfLast s) = Sliced bs IBF_LAST s
Shape bs (Inquiry salt n) = length bs ≡ 8 + 8 * n
Shape bs (Offer n) = length bs ≡ 4 + 64 * n
Shape bs (Demand n) = length bs ≡ 4 + 64 * n
Shape bs (Element n) = length bs ≡ 4 + n
Shape bs Done = length bs ≡ 68

-- of what was read, if anything was
abbrev Shapes : List ℕ → Option Message → Type 0
Shapes bs (Some m) = Shape bs m
Shapes bs None = Unit {0}

module _ (bs : List ℕ) (t size offset salt width : ℕ) where
  sliced : slice_fits t size offset salt width (length bs) ≡ true → is_bare width (in_slice size offset) (16 + 12 * in_slice size offset) bs ≡ true
      → Sliced bs t (slice_with size offset salt width)
  sliced h z =
      let f = slice-ranges t size offset salt width (length bs) h in
      record {
        good = (both _ _ (both _ _ h).0).0;
        fit = f;
        number = refl;
        few = omega arith;
        all = f.all;
        bare = z;
      }

  slice_shape : (eqb t IBF || eqb t IBF_LAST) ≡ true
      → Sliced bs t (slice_with size offset salt width) → Shape bs (slice_head t size offset salt width)
  slice_shape h s =
      choose (Shape bs) (eqb t IBF_LAST)
      (λ q. subst (λ (u : ℕ). Sliced bs u (slice_with size offset salt width)) (eqb-true t IBF_LAST q) s)
      (λ q. subst (λ (u : ℕ). Sliced bs u (slice_with size offset salt width)) (eqb-true t IBF (sym (ap (λ (b : Bool). eqb t IBF || b) q ∙ or_false_r (eqb t IBF)) ∙ h)) s)

hashes_shape : (len : ℕ) → hashes_fit len ≡ true → len ≡ 4 + 64 * (len / 64)
hashes_shape len h = let b = eqb-true (len % 64) 4 (both (leb 68 len) (eqb (len % 64) 4) h).1 in omega arith

body_shape : (t : ℕ) (bs : List ℕ) → Shapes bs (parse_body t bs)
unfolding parse_slice parse_inquiry
body_shape t bs =
    choose (Shapes bs) (eqb t IBF || eqb t IBF_LAST)
    (λ k. choose (Shapes bs) (leb 16 len)
    (λ _. choose (Shapes bs) (slice_fits t (field 4 4 bs) (field 4 8 bs) (field 2 12 bs) (field 2 14 bs) len)
    (λ g. choose (Shapes bs) (is_bare (field 2 14 bs) (in_slice (field 4 4 bs) (field 4 8 bs)) (16 + 12 * in_slice (field 4 4 bs) (field 4 8 bs)) bs)
    (λ z. slice_shape bs t (field 4 4 bs) (field 4 8 bs) (field 2 12 bs) (field 2 14 bs) k (sliced bs t (field 4 4 bs) (field 4 8 bs) (field 2 12 bs) (field 2 14 bs) g z)) (λ _. tt))
    (λ _. tt))
    (λ _. tt))
    (λ _. choose (Shapes bs) (eqb t INQUIRY)
    (λ _. choose (Shapes bs) (leb 16 len) (λ h. choose (Shapes bs) (eqb (len % 8) 0 && ltb (field 4 4 bs) 64) (λ g. inquiry_shape h g) (λ _. tt)) (λ _. tt))
    (λ _. choose (Shapes bs) (eqb t OFFER) (λ _. choose (Shapes bs) (hashes_fit len) (hashes_shape len) (λ _. tt))
    (λ _. choose (Shapes bs) (eqb t DEMAND) (λ _. choose (Shapes bs) (hashes_fit len) (hashes_shape len) (λ _. tt))
    (λ _. choose (Shapes bs) (eqb t ELEMENT) (λ _. choose (Shapes bs) (leb 5 len) (λ h. let l = leb-true 5 len h in omega arith) (λ _. tt))
    (λ _. choose (Shapes bs) (eqb t DONE) (λ _. choose (Shapes bs) (eqb len 68) (eqb-true len 68) (λ _. tt)) (λ _. tt))))))
  where
    len : ℕ
    len = length bs

    inquiry_shape : leb 16 len ≡ true → (eqb (len % 8) 0 && ltb (field 4 4 bs) 64) ≡ true → len ≡ 8 + 8 * ((len - 8) / 8)
    inquiry_shape h g = let l = leb-true 16 len h in let b = eqb-true (len % 8) 0 (both (eqb (len % 8) 0) (ltb (field 4 4 bs) 64) g).0 in omega arith

parse_shape : (bs : List ℕ) → Shapes bs (parse bs)
unfolding parse
parse_shape bs = choose (Shapes bs) (leb 4 (length bs) && eqb (field 2 0 bs) (length bs)) (λ _. body_shape (field 2 2 bs) bs) (λ _. tt)

pub shape : (bs : List ℕ) {m : Message} → parse bs ≡ Some m → Shape bs m
shape bs e = subst (Shapes bs) e (parse_shape bs)

-- a slice's counters stand in its bytes
pub sliced-takes : {bs : List ℕ} {type : ℕ} {s : Slice} → Sliced bs type s → takes s.width s.count (16 + 12 * s.count) (length bs) ≡ true
unfolding is_bare
sliced-takes {bs = bs} {s = s} l =
    let n = s.count in
    (both (takes s.width n (16 + 12 * n) (length bs)) (eqb (spare_bits s.width n (part (16 + 12 * n) (bytes_for (s.width * n)) bs)) 0) l.bare).0

-- IBF LAST reaches the end, IBF does not
type_last : (b : Bool) → IBF_LAST ≡ cond b IBF_LAST IBF → b ≡ true
type_last true h = refl
type_last false h = absurd (omega (arith, h))

type_other : (b : Bool) → IBF ≡ cond b IBF_LAST IBF → b ≡ false
type_other true h = absurd (omega (arith, h))
type_other false h = refl

pub last_reaches : {bs : List ℕ} {s : Slice} → Sliced bs IBF_LAST s → s.offset + s.count ≡ s.size
last_reaches {s = s} l =
    let end = s.offset + in_slice s.size s.offset in
    let e = eqb-true end s.size (type_last (eqb end s.size) l.fit.kind) in
    omega arith

pub other_stops : {bs : List ℕ} {s : Slice} → Sliced bs IBF s → s.offset + s.count < s.size
other_stops {s = s} l =
    let end = s.offset + in_slice s.size s.offset in
    let e = eqb-false end s.size (type_other (eqb end s.size) l.fit.kind) in
    omega arith
