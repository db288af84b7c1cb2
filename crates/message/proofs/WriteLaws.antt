-- What a writer puts and leaves: a frame before its body, an INQUIRY in the order in which it is put, and the answer where the messages fit.
-- Assumes nothing.
use mathlib.Core.Path.{◌≡◌, refl, sym, ap, ap₂, ◌∙◌}
use mathlib.Core.Bool.{Bool, true, false}
use mathlib.Core.List.{List, [], ◌∷◌, ◌++◌, append_assoc, append-nil}
use Prim.Native.Nat.{ℕ, ◌+◌, ◌*◌}
use native.Mathlib.Omega.{arith}
use lib.Dec.{leb}
use lib.ListN.{length, length-append}
use Rattle.std.specs.Prelude.{cond, None, Result, Ok, Err, IsErr, IsErrAnd}
use Rattle.filter.specs.declared.answers.Refusal.{Refusal}
use Rattle.filter.specs.declared.answers.Refusal.TheVariants.{Room}
use Rattle.bucket.specs.Digits.{groups, packed}
use Rattle.bucket.specs.Lists.{over}
use Rattle.std.proofs.Common.{rules}
use Rattle.message.specs.Layout.{Content, inquiry, layout, framed}
use Rattle.message.specs.Writing.{layouts, have_room, write, wrote}
use Rattle.message.proofs.FrameLaws.{framed-length}
use Rattle.message.proofs.WholeLaws.{packed-one, whole_length}

-- ---- one message

pub frame_put : (t n : ℕ) (body : List ℕ) → length body ≡ n → packed 16 ((4 + n) ∷ t ∷ []) ++ body ≡ framed t body
unfolding framed
frame_put t n body e = ap (λ (m : ℕ). packed 16 ((4 + m) ∷ t ∷ []) ++ body) (sym e)

inquiry_body : (salt : ℕ) (ids : List ℕ) → length (packed 32 (salt ∷ []) ++ packed 64 ids) ≡ 4 + 8 * length ids
inquiry_body salt ids =
    length-append (packed 32 (salt ∷ [])) (packed 64 ids) ∙ ap₂ (λ (a b : ℕ). a + b) (whole_length 4 (salt ∷ [])) (whole_length 8 ids)

pub inquiry-put : (salt : ℕ) (ids : List ℕ) (n : ℕ) → length ids ≡ n → (packed 16 ((8 + 8 * n) ∷ 561 ∷ []) ++ groups 8 4 salt) ++ packed 64 ids ≡ layout (inquiry salt ids)
unfolding layout
inquiry-put salt ids n e =
    append_assoc (packed 16 ((8 + 8 * n) ∷ 561 ∷ [])) (groups 8 4 salt) (packed 64 ids)
    ∙ ap₂ (λ (size : ℕ) (body : List ℕ). packed 16 (size ∷ 561 ∷ []) ++ body) size (sym (packed-one 4 salt (packed 64 ids)))
    ∙ frame_put 561 (4 + 8 * n) (packed 32 (salt ∷ []) ++ packed 64 ids) (omega (arith, inquiry_body salt ids))
  where
    size : 8 + 8 * n ≡ 4 + (4 + 8 * n)
    size = omega arith

pub inquiry-length : (salt : ℕ) (ids : List ℕ) → length (layout (inquiry salt ids)) ≡ 8 + 8 * length ids
unfolding layout
inquiry-length salt ids = omega (arith, framed-length 561 (packed 32 (salt ∷ []) ++ packed 64 ids), inquiry_body salt ids)

pub layouts-one : (c : Content) → layouts (c ∷ []) ≡ layout c
unfolding layouts
layouts-one c = append-nil (layout c)

-- ---- the answer

-- the answer of `room_for`
module _ (at n room : ℕ) {r : Result ℕ Refusal} (answer : r ≡ cond (leb (at + n) room) (Ok (at + n)) (Err Room)) where
  pub room-short : {why : Refusal} → r ≡ Err why → (leb (at + n) room ≡ false) × (why ≡ Room)
  room-short {why} e = go (leb (at + n) room) refl
    where
      go : (t : Bool) → leb (at + n) room ≡ t → (leb (at + n) room ≡ false) × (why ≡ Room)
      go true h = cc
      go false h = (h, cc)

  pub room-there : {end : ℕ} → r ≡ Ok end → (leb (at + n) room ≡ true) × (end ≡ at + n)
  room-there {end} e = go (leb (at + n) room) refl
    where
      go : (t : Bool) → leb (at + n) room ≡ t → (leb (at + n) room ≡ true) × (end ≡ at + n)
      go true h = (h, cc)
      go false h = cc

-- what `?` hands on
pub handed-on : {r : Result ℕ Refusal} {why : Refusal} → IsErr r × IsErrAnd r (λ e. e ≡ why) → r ≡ Err why
handed-on {r} {why} = go r
  where
    go : (r : Result ℕ Refusal) → IsErr r × IsErrAnd r (λ e. e ≡ why) → r ≡ Err why
    go (Ok x) h = search rules
    go (Err e) h = ap Err h.1

module _ (cs : List Content) (at : ℕ) (out : List ℕ) (total : ℕ) (size : length (layouts cs) ≡ total) where
  pub room_tested : {t : Bool} → leb (at + total) (length out) ≡ t → have_room cs at out ≡ t
  unfolding have_room
  room_tested h = ap (λ (n : ℕ). leb (at + n) (length out)) size ∙ h

  pub wrote-there : {bytes out' : List ℕ} {next : ℕ} → layouts cs ≡ bytes → out' ≡ over at bytes out → next ≡ at + total → write (Ok next) out' ≡ wrote None cs at out
  unfolding wrote
  wrote-there e h p = ap₂ (λ (n : ℕ) (l : List ℕ). write (Ok n) l) (p ∙ ap (λ (n : ℕ). at + n) (sym size)) (h ∙ ap (λ (l : List ℕ). over at l out) (sym e))
