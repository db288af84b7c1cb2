-- What was written is read: the layout of anything in range is read as its kind and numbers, and says it. Assumes nothing.
use mathlib.Core.Path.{◌≡◌, refl, sym, ap, ap₂, ◌∙◌}
use mathlib.Core.Bool.{Bool, true, false, ◌||◌, cond}
use mathlib.Core.List.{List, [], ◌∷◌, ◌++◌, append-nil}
use Prim.Native.Nat.{ℕ, ◌+◌, ◌-◌, ◌*◌, ◌/◌, ◌%◌, ◌^◌, ◌≤◌, ◌<◌}
use native.Mathlib.Nat.{mod-eq_of_lt, mul-le-mul}
use native.Mathlib.Omega.{arith}
use borrow.Author.Tests.{ltb-true, leb-true, eq-eqb, le-leb}
use lib.Dec.{eqb, ltb}
use lib.ListN.{length, take, drop, length-append}
use lib.Seq.{take_all, take_at, drop_at, drop-drop}
use Rattle.std.proofs.Common.{Some, None}
use Rattle.bucket.specs.Digits.{bytes_for, joined, groups, packed, unpacked, spare_bits}
use Rattle.bucket.specs.Lists.{part}
use Rattle.bucket.specs.Packing.{is_bare}
use Rattle.bucket.proofs.DigitLaws.{groups-length, joined-groups}
use Rattle.bucket.proofs.PackedLaws.{packed-length, unpacked-packed, packed-spare}
use Rattle.bucket.proofs.RoomLaws.{takes-rest}
use Rattle.bucket.proofs.TestLaws.{and_holds}
use Rattle.bucket.proofs.ReadLaws.{bare-here}
use Rattle.message.specs.declared.kinds.Message.TheVariants.{Ibf, IbfLast}
use Rattle.message.specs.declared.kinds.Slice.{Slice}
use Rattle.message.specs.Layout.{DEMAND, INQUIRY, OFFER, IBF, ELEMENT, IBF_LAST, DONE, Content, slice, inquiry, offer, demand, element, done, Good, Many, GoodSlice, layout, framed, in_slice, slice_type, slice_bytes}
use Rattle.message.specs.Reading.{field, content, head, slice_in, slice_with, slice_fits, parse, parse_body, parse_slice, parse_inquiry, hashes_fit}
use Rattle.message.proofs.FrameLaws.{framed-length, framed-size, framed_type, framed-drop, framed-field}
use Rattle.message.proofs.ReadLaws.{both, typed, Ranges, slice-ranges, slice_fields}
use Rattle.message.proofs.WholeLaws.{packed-one, packed_two, packed-cons, packed-nil, field-here, field-there, drop-field, whole}

pub record Kept (m : Content) : Type 0 where
  pub read : parse (layout m) ≡ Some (head m)
  pub said : content (head m) (layout m) ≡ m

-- a frame of type t around a body of a good length
framing : (t : ℕ) (body : List ℕ) → t < 65536 → length body ≤ 65531 → parse (framed t body) ≡ parse_body t (framed t body)
framing t body h l =
    sym (typed (framed t body) t (omega (arith, framed-length t body)) (framed-size t body l ∙ sym (framed-length t body)) (sym (framed_type t body h)))

counted : (w high : ℕ) (xs : List ℕ) → Many w high xs → (1 ≤ length xs) × (length xs ≤ high)
counted w high xs m = let h = both _ _ m.number in (leb-true 1 (length xs) h.0, leb-true (length xs) high h.1)

hash-length : (xs : List ℕ) → length (packed 512 xs) ≡ 64 * length xs
hash-length xs = packed-length 512 xs ∙ whole 64 (length xs)

module _ (t : ℕ) (hs : List ℕ) (good : Many 512 1023 hs) where
  hashes-length : length (framed t (packed 512 hs)) ≡ 4 + 64 * length hs
  hashes-length = framed-length t (packed 512 hs) ∙ ap (λ (n : ℕ). 4 + n) (hash-length hs)

  hashes-fit : hashes_fit (length (framed t (packed 512 hs))) ≡ true
  hashes-fit =
      let c = counted 512 1023 hs good in
      rw (hashes-length, le-leb 68 (4 + 64 * length hs) (omega arith), eq-eqb ((4 + 64 * length hs) % 64) 4 (omega arith))

  hashes-count : length (framed t (packed 512 hs)) / 64 ≡ length hs
  hashes-count = omega (arith, hashes-length)

  hashes-room : length (packed 512 hs) ≤ 65531
  hashes-room = let c = counted 512 1023 hs good in omega (arith, hash-length hs)

  hashes-said : unpacked 512 (length hs) (drop 4 (framed t (packed 512 hs))) ≡ hs
  hashes-said = ap (unpacked 512 (length hs)) (framed-drop t (packed 512 hs) 0) ∙ unpacked-packed 512 hs good.fit

offers : (hs : List ℕ) → Many 512 1023 hs → Kept (offer hs)
unfolding layout head content
offers hs good =
    record {
      read = framing OFFER (packed 512 hs) (omega arith) (hashes-room OFFER hs good) ∙ rw (hashes-fit OFFER hs good, hashes-count OFFER hs good);
      said = ap offer (hashes-said OFFER hs good);
    }

demands : (hs : List ℕ) → Many 512 1023 hs → Kept (demand hs)
unfolding layout head content
demands hs good =
    record {
      read = framing DEMAND (packed 512 hs) (omega arith) (hashes-room DEMAND hs good) ∙ rw (hashes-fit DEMAND hs good, hashes-count DEMAND hs good);
      said = ap demand (hashes-said DEMAND hs good);
    }

elements : (bs : List ℕ) → Many 8 65531 bs → Kept (element bs)
unfolding layout head content
elements bs good =
    let c = counted 8 65531 bs good in
    let l = framed-length ELEMENT bs in
    let n : length (framed ELEMENT bs) - 4 ≡ length bs = omega arith in
    record {
      read = framing ELEMENT bs (omega arith) c.1 ∙ rw (le-leb 5 (length (framed ELEMENT bs)) (omega arith), n);
      said = ap element (framed-drop ELEMENT bs 0);
    }

dones : (x : ℕ) → x < 2 ^ 512 → Kept (done x)
unfolding layout head content
dones x h =
    let body = packed 512 (x ∷ []) in
    let l = framed-length DONE body ∙ ap (λ (n : ℕ). 4 + n) (hash-length (x ∷ [])) in
    record {
      read = framing DONE body (omega arith) (omega (arith, hash-length (x ∷ []))) ∙ rw (eq-eqb (length (framed DONE body)) 68 l);
      said = ap done (ap (joined 8) (framed-drop DONE body 0 ∙ packed-cons 64 x [] ∙ ap (λ (q : List ℕ). groups 8 64 x ++ q) (packed-nil 64) ∙ append-nil (groups 8 64 x)) ∙ joined-groups 8 64 x ∙ mod-eq_of_lt h);
    }

inquiries : (salt : ℕ) (ids : List ℕ) → ltb salt 64 ≡ true → Many 64 8190 ids → Kept (inquiry salt ids)
unfolding layout head content parse_inquiry
inquiries salt ids s good =
    record {
      read = framing INQUIRY body (omega arith) (omega (arith, len, c)) ∙ rw (le-leb 16 (length bs) (omega (arith, all, c)), eq-eqb (length bs % 8) 0 (omega (arith, all)), salt', s, count);
      said = ap (inquiry salt) (ap (unpacked 64 (length ids)) behind ∙ unpacked-packed 64 ids good.fit);
    }
  where
    body : List ℕ
    body = packed 32 (salt ∷ []) ++ packed 64 ids

    bs : List ℕ
    bs = framed INQUIRY body

    c : (1 ≤ length ids) × (length ids ≤ 8190)
    c = counted 64 8190 ids good

    small : salt < 64
    small = ltb-true salt 64 s

    len : length body ≡ 4 + 8 * length ids
    len = length-append (packed 32 (salt ∷ [])) (packed 64 ids) ∙ ap₂ (λ (a b : ℕ). a + b) (packed-length 32 (salt ∷ [])) (packed-length 64 ids ∙ whole 8 (length ids))

    all : length bs ≡ 8 + 8 * length ids
    all = omega (arith, framed-length INQUIRY body, len)

    count : (length bs - 8) / 8 ≡ length ids
    count = omega (arith, all)

    parts : body ≡ groups 8 4 salt ++ packed 64 ids
    parts = packed-one 4 salt (packed 64 ids)

    salt' : field 4 4 bs ≡ salt
    salt' = framed-field INQUIRY 4 0 body ∙ ap (field 4 0) parts ∙ field-here 4 salt (packed 64 ids) (omega (arith, small))

    behind : drop 8 bs ≡ packed 64 ids
    behind = framed-drop INQUIRY body 4 ∙ ap (drop 4) parts ∙ drop-field 4 salt (packed 64 ids) 0

ap₃ : (f : List ℕ → List ℕ → List ℕ → Content) {a a' b b' c c' : List ℕ} → a ≡ a' → b ≡ b' → c ≡ c' → f a b c ≡ f a' b' c'
ap₃ f {a} {a'} {b} {b'} {c} {c'} p q r = ap₂ (λ (x y : List ℕ). f x y c) p q ∙ ap (f a' b') r

-- either type of a slice
type_small : (b : Bool) → cond b IBF_LAST IBF < 65536
type_small true = omega arith
type_small false = omega arith

type_slice : (b : Bool) → (eqb (cond b IBF_LAST IBF) IBF || eqb (cond b IBF_LAST IBF) IBF_LAST) ≡ true
type_slice true = refl
type_slice false = refl

slice-said : (b : Bool) (s : Slice) (bs : List ℕ) → content (cond b (IbfLast s) (Ibf s)) bs ≡ slice_in s bs
unfolding content
slice-said true s bs = refl
slice-said false s bs = refl

slices : (size offset salt width : ℕ) (ids hashes counts : List ℕ) → GoodSlice size offset salt width ids hashes counts → Kept (slice size offset salt width ids hashes counts)
unfolding layout head content parse_slice
slices size offset salt width ids hashes counts good =
    record {
      read =
          framing t body (type_small (eqb (offset + n) size)) (omega (arith, len, bits))
          ∙ rw (type_slice (eqb (offset + n) size))
          (sym (slice_fields t bs (omega (arith, all)) (sym size') (sym offset') (sym salt') (sym width'))
          ∙ rw (fitting, bare));
      said =
          slice-said (eqb t IBF_LAST) (slice_with size offset salt width) bs
          ∙ ap₃ (slice size offset salt width)
          (ap₂ (unpacked 64) (sym good.n-ids) ids' ∙ unpacked-packed 64 ids good.ids-fit)
          (ap₂ (unpacked 32) (sym good.n-hashes) hashes' ∙ unpacked-packed 32 hashes good.hashes-fit)
          (ap₂ (unpacked width) (sym good.n-counts) counts' ∙ unpacked-packed width counts good.counts-fit);
    }
  where
    n : ℕ
    n = in_slice size offset

    t : ℕ
    t = slice_type size offset

    columns : List ℕ
    columns = packed 64 ids ++ (packed 32 hashes ++ packed width counts)

    body : List ℕ
    body = packed 32 (size ∷ offset ∷ []) ++ (packed 16 (salt ∷ width ∷ []) ++ columns)

    bs : List ℕ
    bs = framed t body

    parts : body ≡ groups 8 4 size ++ (groups 8 4 offset ++ (groups 8 2 salt ++ (groups 8 2 width ++ columns)))
    parts = packed_two 4 size offset (packed 16 (salt ∷ width ∷ []) ++ columns) ∙ ap (λ (q : List ℕ). groups 8 4 size ++ (groups 8 4 offset ++ q)) (packed_two 2 salt width columns)

    ids-length : length (packed 64 ids) ≡ 8 * n
    ids-length = packed-length 64 ids ∙ whole 8 (length ids) ∙ ap (λ (k : ℕ). 8 * k) good.n-ids

    hashes-length : length (packed 32 hashes) ≡ 4 * n
    hashes-length = packed-length 32 hashes ∙ whole 4 (length hashes) ∙ ap (λ (k : ℕ). 4 * k) good.n-hashes

    counts-length : length (packed width counts) ≡ bytes_for (width * n)
    counts-length = packed-length width counts ∙ ap (λ (k : ℕ). bytes_for (width * k)) good.n-counts

    sumup : 4 + (4 + (2 + (2 + (8 * n + (4 * n + bytes_for (width * n)))))) ≡ 12 + 12 * n + bytes_for (width * n)
    sumup = omega arith

    len : length body ≡ 12 + 12 * n + bytes_for (width * n)
    len =
        ap length parts
        ∙ simp (length-append, groups-length) (ap (λ (k : ℕ). 4 + (4 + (2 + (2 + k)))) (ap₂ (λ (a b : ℕ). a + b) ids-length (ap₂ (λ (a b : ℕ). a + b) hashes-length counts-length)) ∙ sumup)

    all : length bs ≡ slice_bytes width n
    all = omega (arith, framed-length t body, len)

    fitting : slice_fits t size offset salt width (length bs) ≡ true
    fitting = and_holds (and_holds good.ranges (eq-eqb t t refl)) (eq-eqb (length bs) (slice_bytes width n) all)

    r : Ranges t size offset salt width (length bs)
    r = slice-ranges t size offset salt width (length bs) fitting

    bits : width * n ≤ 32 * 2520
    bits = mul-le-mul {m₂ = 2520} r.most (omega arith)

    size' : field 4 4 bs ≡ size
    size' = framed-field t 4 0 body ∙ ap (field 4 0) parts ∙ field-here 4 size _ (omega (arith, r))

    offset' : field 4 8 bs ≡ offset
    offset' = framed-field t 4 4 body ∙ ap (field 4 4) parts ∙ field-there 4 size _ 4 0 ∙ field-here 4 offset _ (omega (arith, r))

    salt' : field 2 12 bs ≡ salt
    salt' = framed-field t 2 8 body ∙ ap (field 2 8) parts ∙ field-there 4 size _ 2 4 ∙ field-there 4 offset _ 2 0 ∙ field-here 2 salt _ (omega (arith, r))

    width' : field 2 14 bs ≡ width
    width' =
        framed-field t 2 10 body ∙ ap (field 2 10) parts ∙ field-there 4 size _ 2 6 ∙ field-there 4 offset _ 2 2 ∙ field-there 2 salt _ 2 0
        ∙ field-here 2 width _ (omega (arith, r))

    behind : drop 16 bs ≡ columns
    behind =
        framed-drop t body 12 ∙ ap (drop 12) parts ∙ drop-field 4 size _ 8 ∙ drop-field 4 offset _ 4 ∙ drop-field 2 salt _ 2 ∙ drop-field 2 width _ 0

    ids' : part 16 (8 * n) bs ≡ packed 64 ids
    ids' = ap (take (8 * n)) behind ∙ take_at (packed 64 ids) _ (8 * n) ids-length

    after-ids : drop (16 + 8 * n) bs ≡ packed 32 hashes ++ packed width counts
    after-ids = sym (drop-drop (8 * n) 16 bs) ∙ ap (drop (8 * n)) behind ∙ drop_at (packed 64 ids) _ (8 * n) ids-length

    hashes' : part (16 + 8 * n) (4 * n) bs ≡ packed 32 hashes
    hashes' = ap (take (4 * n)) after-ids ∙ take_at (packed 32 hashes) _ (4 * n) hashes-length

    twelve : 16 + 12 * n ≡ 16 + 8 * n + 4 * n
    twelve = omega arith

    counts' : part (16 + 12 * n) (bytes_for (width * n)) bs ≡ packed width counts
    counts' =
        ap (λ (k : ℕ). part k (bytes_for (width * n)) bs) twelve
        ∙ ap (take (bytes_for (width * n))) (sym (drop-drop (4 * n) (16 + 8 * n) bs) ∙ ap (drop (4 * n)) after-ids ∙ drop_at (packed 32 hashes) _ (4 * n) hashes-length)
        ∙ take_all (bytes_for (width * n)) (packed width counts) (omega (arith, counts-length))

    bare : is_bare width n (16 + 12 * n) bs ≡ true
    bare =
        sym (bare-here bs (16 + 12 * n) n width (takes-rest width n (16 + 12 * n) (length bs) r.some r.most (omega arith) ∙ le-leb _ (length bs) (omega (arith, all))))
        ∙ eq-eqb _ 0
        (ap (spare_bits width n) counts'
        ∙ ap (λ (k : ℕ). spare_bits width k (packed width counts)) (sym good.n-counts)
        ∙ packed-spare width counts)

pub complete : (m : Content) → Good m → Kept m
complete (slice size offset salt width ids hashes counts) good = slices size offset salt width ids hashes counts good
complete (inquiry salt ids) good = inquiries salt ids good.0 good.1
complete (offer hs) good = offers hs good
complete (demand hs) good = demands hs good
complete (element bs) good = elements bs good
complete (done x) good = dones x good

pub head_never : (m : Content) → Some (head m) ≡ None → ⊥
head_never m e = cc

-- the bytes of anything in range are a message; with `sound`, no message is exactly everything else
pub not_malformed : (m : Content) (bs : List ℕ) → Good m → layout m ≡ bs → parse bs ≡ None → ⊥
not_malformed m bs good e z = head_never m (sym (complete m good).read ∙ ap parse e ∙ z)
