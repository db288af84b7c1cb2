-- A slice laid into columns: its numbers one after another, the columns together, and the call for each kind of message. Assumes nothing.
use mathlib.Core.Path.{◌≡◌, refl, sym, ap, ap₂, ◌∙◌, subst}
use mathlib.Core.Bool.{Bool, true, false, ◌&&◌, cond}
use mathlib.Core.List.{List, [], ◌∷◌, ◌++◌, map}
use Prim.Native.Nat.{ℕ, ◌+◌, ◌-◌, ◌*◌, ◌≤◌, ◌<◌}
use native.Mathlib.Nat.{zero-add}
use native.Mathlib.Numerals.{add-one}
use native.Mathlib.Omega.{arith}
use borrow.Author.Tests.{le-leb}
use lib.Dec.{eqb, leb}
use lib.IntN.{ℤ}
use lib.ListN.{length, take, get_or, set}
use lib.Seq.{take_all, take-suc, take-suc-set}
use borrow.Rule.Slice.PartMut.{put_mid}
use Rattle.std.proofs.lemmas.List.{map-id}
use Rattle.std.specs.Prelude.{MatchOption}
use Rattle.std.proofs.Common.{Option, Some, None}
use Rattle.bucket.specs.Columns.{Columns, columns}
use Rattle.bucket.specs.Digits.{unpacked}
use Rattle.bucket.specs.Lists.{over, part}
use Rattle.bucket.specs.Packing.{takes, unpack_into}
use Rattle.bucket.proofs.OverLaws.{over-part}
use Rattle.bucket.proofs.PackedLaws.{unpacked-length}
use Rattle.bucket.proofs.TestLaws.{and_holds, cond-made}
use Rattle.filter.specs.declared.answers.Refusal.{Refusal}
use Rattle.filter.specs.declared.answers.Refusal.TheVariants.{Room, Malformed}
use Rattle.filter.specs.Answers.{number_of, first_of}
use Rattle.filter.specs.Calls.{has_room}
use Rattle.filter.proofs.FilledLaws.{wide_of}
use Rattle.message.specs.declared.kinds.Message.{Message}
use Rattle.message.specs.declared.kinds.Message.TheVariants.{Ibf, IbfLast, Inquiry, Offer, Demand, Element, Done}
use Rattle.message.specs.declared.kinds.Slice.{Slice}
use Rattle.message.specs.Kinds.{slice_as}
use Rattle.message.specs.Laying.{laid, is_slice, slice_end, lay_refusal, lay, lay_as, lay_read, lay_call}
use Rattle.message.specs.Putting.{buckets_laid, lay_buckets}
use Rattle.message.specs.Reading.{field, parse, content}
use Rattle.message.proofs.ShapeLaws.{Sliced, shape, sliced-takes}
use Rattle.message.proofs.WholeLaws.{item_there}

-- n numbers of k bytes each that fill the bytes bs, laid one after another over the list l
module _ (k n : ℕ) (bs : List ℕ) (all : length bs ≡ k * n) where
  number-here : (i : ℕ) → i < n → get_or (unpacked (8 * k) n bs) i 0 ≡ field k (k * i) bs
  number-here i h =
      ap (λ (l : List ℕ). get_or (unpacked (8 * k) n l) i 0) (sym (take_all (k * n) bs (omega arith)))
      ∙ item_there k n 0 bs (omega arith) i h ∙ ap (λ (m : ℕ). field k m bs) (zero-add (k * i))

  pub numbers-next : {i : ℕ} (l : List ℕ) (v : ℕ) → take i l ≡ take i (unpacked (8 * k) n bs) → length l ≡ n → i < n → v ≡ field k (k * i) bs
      → take (i + 1) (set l i v) ≡ take (i + 1) (unpacked (8 * k) n bs)
  numbers-next {i} l v e len h e' =
      rw add-one (take-suc-set l i v (omega (arith, len)))
      ∙ ap₂ (λ (xs : List ℕ) (x : ℕ). xs ++ x ∷ []) e (e' ∙ sym (number-here i h))
      ∙ sym (rw add-one (take-suc (unpacked (8 * k) n bs) i 0 (omega (arith, unpacked-length (8 * k) n bs))))

  pub numbers-end : {i : ℕ} (l : List ℕ) → take i l ≡ take i (unpacked (8 * k) n bs) → length l ≡ n → n ≤ i → l ≡ unpacked (8 * k) n bs
  numbers-end {i} l e len h =
      sym (take_all i l (omega (arith, len))) ∙ e ∙ take_all i (unpacked (8 * k) n bs) (omega (arith, unpacked-length (8 * k) n bs))

-- numbers laid into the n places of a column from a position on, which were lent alone
pub laid-part : (from n : ℕ) (xs us l : List ℕ) → from + n ≤ length l → map (λ x. x) xs ≡ us → length us ≡ n → put_mid from (from + n - from) l xs ≡ over from us l
laid-part from n xs us l room e len =
    over-part from (from + n) xs l (ap (λ (k : ℕ). from + k) (ap length same ∙ len)) ∙ ap (λ (q : List ℕ). over from q l) same
  where
    same : xs ≡ us
    same = sym (map-id xs) ∙ e

lay_either : (t : Bool) (x c : Columns) → cond t (lay None x) (lay (Some Room) c) ≡ lay (cond t None (Some Room)) (cond (eqb (number_of (cond t None (Some Room))) 0) x c)
lay_either true x c = refl
lay_either false x c = refl

-- the columns together
module _ (offset width n : ℕ) (bs : List ℕ) (c : Columns) where
  pub buckets_laid_lem : {ids hashes : List ℕ} {counts : List ℤ} → has_room (offset + n) c ≡ true → takes width n (16 + 12 * n) (length bs) ≡ true
      → ids ≡ over offset (unpacked 64 n (part 16 (8 * n) bs)) c.idsums
      → hashes ≡ over offset (unpacked 32 n (part (16 + 8 * n) (4 * n) bs)) c.hashsums
      → counts ≡ unpack_into width n (16 + 12 * n) bs offset c.counts
      → lay None (columns ids hashes counts) ≡ lay_buckets offset width n bs c
  unfolding lay_buckets unpack_into
  buckets_laid_lem {counts = counts} h there i s k =
      ap₂ (λ (a b : List ℕ). lay None (columns a b counts)) i s
      ∙ ap (λ (a : List ℤ). lay None (columns (buckets_laid offset width n bs c).idsums (buckets_laid offset width n bs c).hashsums a)) (k ∙ sym made)
      ∙ cond-made (lay None (buckets_laid offset width n bs c)) (lay (Some Room) c) h
    where
      made : (buckets_laid offset width n bs c).counts ≡ cond (takes width n (16 + 12 * n) (length bs) && leb (offset + n) (length c.counts)) (buckets_laid offset width n bs c).counts c.counts
      made =
          cond-made (buckets_laid offset width n bs c).counts c.counts
          (and_holds there (le-leb (offset + n) (length c.counts) (wide_of (offset + n) c h).counts))

-- the call, for each kind of message
module _ (s : Slice) (bs : List ℕ) (c : Columns) where
  pub lay_ibf : lay_buckets s.offset s.width s.count bs c ≡ lay_as (Ibf s) bs c
  unfolding lay_buckets lay_as lay_refusal laid content
  lay_ibf = lay_either (has_room (s.offset + s.count) c) (buckets_laid s.offset s.width s.count bs c) c

  pub lay_last : lay_buckets s.offset s.width s.count bs c ≡ lay_as (IbfLast s) bs c
  unfolding lay_buckets lay_as lay_refusal laid content
  lay_last = lay_either (has_room (s.offset + s.count) c) (buckets_laid s.offset s.width s.count bs c) c

none-asked : (c : Columns) → has_room 0 c ≡ true
unfolding has_room
none-asked c = and_holds (le-leb 0 (length c.idsums) (omega arith)) (and_holds (le-leb 0 (length c.hashsums) (omega arith)) (le-leb 0 (length c.counts) (omega arith)))

pub lay_other : (m : Message) (bs : List ℕ) (c : Columns) → slice_end m ≡ 0 → is_slice m ≡ false → lay (Some Malformed) c ≡ lay_as m bs c
unfolding lay_as lay_refusal
lay_other m bs c e h =
    sym (ap (λ (r : Option Refusal). lay r (cond (eqb (number_of r) 0) (laid (content m bs) c) c)) refused)
  where
    refused : first_of ((Room, has_room (slice_end m) c) ∷ (Malformed, is_slice m) ∷ []) ≡ Some Malformed
    refused =
        ap₂ (λ (k : ℕ) (b : Bool). first_of ((Room, has_room k c) ∷ (Malformed, b) ∷ [])) e h ∙ ap (λ (t : Bool). cond t (Some Malformed) (Some Room)) (none-asked c)

-- what is read of the bytes, and the slice that it is, if it is one
module _ (bs : List ℕ) (c : Columns) where
  known : {m : Message} → Some m ≡ parse bs → lay_as m bs c ≡ lay_call bs c
  unfolding lay_call
  known e = ap (λ (x : Option Message). lay_read x bs c) e

  pub lay_none : (x : Option Message) {r : Option Slice} → x ≡ parse bs → MatchOption x (r ≡ None) (λ m. r ≡ slice_as m) → r ≡ None → lay (Some Malformed) c ≡ lay_call bs c
  unfolding lay_call
  lay_none None e t n = ap (λ (x : Option Message). lay_read x bs c) e
  lay_none (Some (Ibf s)) e t n = let q : Some s ≡ None = sym t ∙ n in cc
  lay_none (Some (IbfLast s)) e t n = let q : Some s ≡ None = sym t ∙ n in cc
  lay_none (Some (Inquiry salt k)) e t n = lay_other (Inquiry salt k) bs c refl refl ∙ known e
  lay_none (Some (Offer k)) e t n = lay_other (Offer k) bs c refl refl ∙ known e
  lay_none (Some (Demand k)) e t n = lay_other (Demand k) bs c refl refl ∙ known e
  lay_none (Some (Element k)) e t n = lay_other (Element k) bs c refl refl ∙ known e
  lay_none (Some Done) e t n = lay_other Done bs c refl refl ∙ known e

  -- what `lay_slice` asks holds of a slice that was read, and it answers the call
  pub record Lays (s : Slice) : Type 0 where
    pub asks : (s.offset ≤ 4096) × (s.count ≤ 2520) × (takes s.width s.count (16 + 12 * s.count) (length bs) ≡ true)
    pub answers : lay_buckets s.offset s.width s.count bs c ≡ lay_call bs c

  sliced-lays : {type : ℕ} {s : Slice} → Sliced bs type s → lay_buckets s.offset s.width s.count bs c ≡ lay_call bs c → Lays s
  sliced-lays l e = record { asks = (omega arith, l.few, sliced-takes l); answers = e }

  pub lay_some : (x : Option Message) {r : Option Slice} {s : Slice} → x ≡ parse bs → MatchOption x (r ≡ None) (λ m. r ≡ slice_as m) → r ≡ Some s → Lays s
  lay_some None {s = s} e t n = let q : None ≡ Some s = sym t ∙ n in cc
  lay_some (Some (Ibf t)) {s = s} e h n =
      let q : Some t ≡ Some s = sym h ∙ n in
      let same : t ≡ s = cc in
      subst Lays same (sliced-lays (shape bs (sym e)) (lay_ibf t bs c ∙ known e))
  lay_some (Some (IbfLast t)) {s = s} e h n =
      let q : Some t ≡ Some s = sym h ∙ n in
      let same : t ≡ s = cc in
      subst Lays same (sliced-lays (shape bs (sym e)) (lay_last t bs c ∙ known e))
  lay_some (Some (Inquiry salt k)) {s = s} e h n = let q : None ≡ Some s = sym h ∙ n in cc
  lay_some (Some (Offer k)) {s = s} e h n = let q : None ≡ Some s = sym h ∙ n in cc
  lay_some (Some (Demand k)) {s = s} e h n = let q : None ≡ Some s = sym h ∙ n in cc
  lay_some (Some (Element k)) {s = s} e h n = let q : None ≡ Some s = sym h ∙ n in cc
  lay_some (Some Done) {s = s} e h n = let q : None ≡ Some s = sym h ∙ n in cc
