-- The items of a message as the code reads them are those of its content; and what its length allows.
use mathlib.Core.Path.{◌≡◌, ap}
use mathlib.Core.List.{List}
use Prim.Native.Nat.{ℕ, ◌+◌, ◌*◌, ◌/◌, ◌^◌, ◌≤◌, ◌<◌}
use native.Mathlib.Omega.{arith}
use lib.ListN.{length, drop, length-drop}
use lib.Seq.{take_all}
use Rattle.std.proofs.Common.{Some}
use Rattle.bucket.specs.Digits.{joined, groups, spare, unpacked}
use Rattle.bucket.specs.Lists.{part}
use Rattle.bucket.proofs.DigitLaws.{groups-below}
use Rattle.message.specs.declared.kinds.Message.{Message}
use Rattle.message.specs.declared.kinds.Message.TheVariants.{Inquiry, Offer, Demand, Done}
use Rattle.message.specs.Layout.{inquiry, offer, demand, done}
use Rattle.message.specs.Reading.{content, parse}
use Rattle.message.proofs.BackLaws.{sized}
use Rattle.message.proofs.ReadLaws.{field_lt}
use Rattle.message.proofs.ShapeLaws.{shape}
use Rattle.ledger.proofs.BelowLaws.{Fit, fit_of}

rest_all : (at k : ℕ) (bs : List ℕ) → length bs ≡ at + k → part at k bs ≡ drop at bs
rest_all at k bs e = take_all k (drop at bs) (let l = length-drop at bs in omega arith)

-- MSG SIZE has 16 bits
size-short : (bs : List ℕ) {m : Message} → parse bs ≡ Some m → length bs < 65536
size-short bs e = omega (arith, (sized bs e).1, field_lt 2 0 bs)

pub items_short : (n : ℕ) (bs : List ℕ) → Fit 512 (unpacked 512 n bs)
unfolding unpacked
items_short n bs h e = fit_of 512 (groups 512 n (joined 8 bs / 2 ^ spare (512 * n))) (groups-below 512 n (joined 8 bs / 2 ^ spare (512 * n))) h e

module _ (bs : List ℕ) where
  module _ (salt n : ℕ) (e : parse bs ≡ Some (Inquiry salt n)) where
    pub inquiry-room : 8 + 8 * n ≤ length bs
    inquiry-room = let l = shape bs e in omega arith

    pub inquiry-said : inquiry salt (unpacked 64 n (part 8 (8 * n) bs)) ≡ content (Inquiry salt n) bs
    unfolding content
    inquiry-said = ap (λ (l : List ℕ). inquiry salt (unpacked 64 n l)) (rest_all 8 (8 * n) bs (shape bs e))

  module _ (n : ℕ) (e : parse bs ≡ Some (Offer n)) where
    pub offer-few : n ≤ 1023
    offer-few = let l = shape bs e in let h = size-short bs e in omega arith

    pub offer-room : 4 + 64 * n ≤ length bs
    offer-room = let l = shape bs e in omega arith

    pub offer-said : offer (unpacked 512 n (part 4 (64 * n) bs)) ≡ content (Offer n) bs
    unfolding content
    offer-said = ap (λ (l : List ℕ). offer (unpacked 512 n l)) (rest_all 4 (64 * n) bs (shape bs e))

  module _ (n : ℕ) (e : parse bs ≡ Some (Demand n)) where
    pub demand-few : n ≤ 1023
    demand-few = let l = shape bs e in let h = size-short bs e in omega arith

    pub demand-room : 4 + 64 * n ≤ length bs
    demand-room = let l = shape bs e in omega arith

    pub demand-said : demand (unpacked 512 n (part 4 (64 * n) bs)) ≡ content (Demand n) bs
    unfolding content
    demand-said = ap (λ (l : List ℕ). demand (unpacked 512 n l)) (rest_all 4 (64 * n) bs (shape bs e))

  module _ (e : parse bs ≡ Some Done) where
    pub done-room : 68 ≤ length bs
    done-room = let l = shape bs e in omega arith

    pub done-said : done (joined 8 (part 4 64 bs)) ≡ content Done bs
    unfolding content
    done-said = ap (λ (l : List ℕ). done (joined 8 l)) (rest_all 4 64 bs (shape bs e))
