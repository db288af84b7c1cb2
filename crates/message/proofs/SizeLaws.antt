-- What the messages of a writer are as bytes, and how many bytes that is. Assumes nothing.
use mathlib.Core.Path.{◌≡◌, refl, ap, ◌∙◌}
use mathlib.Core.List.{List, [], ◌∷◌}
use Prim.Native.Nat.{ℕ, ◌+◌, ◌≤◌}
use native.Mathlib.Omega.{arith}
use lib.ListN.{length, take}
use lib.Seq.{take_all}
use Rattle.bucket.specs.Digits.{joined, packed, Below}
use Rattle.message.specs.Layout.{inquiry, element, done, layout, framed}
use Rattle.message.specs.Writing.{layouts, pieces, inquiries_of}
use Rattle.message.specs.Putting.{cut_bytes, end_to_end}
use Rattle.message.proofs.CutLaws.{cut-length, layouts-map}
use Rattle.message.proofs.FrameLaws.{framed-length}
use Rattle.message.proofs.WholeLaws.{one-back, whole_length}
use Rattle.message.proofs.WriteLaws.{inquiry-length, layouts-one}

pub inquiries_laid : (salt : ℕ) (ids : List ℕ) → layouts (inquiries_of salt ids) ≡ end_to_end (λ l. layout (inquiry salt l)) (pieces 8190 ids)
inquiries_laid salt ids = layouts-map (inquiry salt) (λ (l : List ℕ). layout (inquiry salt l)) (λ l. refl) (pieces 8190 ids)

pub inquiries_size : (salt : ℕ) (ids : List ℕ) → length (layouts (inquiries_of salt ids)) ≡ cut_bytes 8190 8 8 (length ids)
inquiries_size salt ids =
    ap length (inquiries_laid salt ids) ∙ cut-length 8190 (λ (l : List ℕ). layout (inquiry salt l)) (omega arith) 8 8 (inquiry-length salt) ids

pub element_laid : (bytes : List ℕ) → layouts (element bytes ∷ []) ≡ framed 566 bytes
unfolding layout
element_laid bytes = layouts-one (element bytes)

pub element_size : (bytes : List ℕ) → length (layouts (element bytes ∷ [])) ≡ 4 + length bytes
element_size bytes = ap length (element_laid bytes) ∙ framed-length 566 bytes

pub done_laid : (bytes : List ℕ) → Below 8 bytes → 64 ≤ length bytes → layouts (done (joined 8 (take 64 bytes)) ∷ []) ≡ framed 568 (take 64 bytes)
unfolding layout
done_laid bytes below long = layouts-one (done (joined 8 (take 64 bytes))) ∙ ap (framed 568) (one-back 64 0 bytes below (omega arith))

pub done_size : (check : ℕ) → length (layouts (done check ∷ [])) ≡ 68
unfolding layout
done_size check = ap length (layouts-one (done check)) ∙ framed-length 568 (packed 512 (check ∷ [])) ∙ ap (λ (n : ℕ). 4 + n) (whole_length 64 (check ∷ []))

-- what the writers of IDs, of an element and of the end go by
pub ruleset inquiry_bytes = (inquiries_laid, inquiries_size)

pub ruleset element_bytes = (element_laid, element_size, take_all)

pub ruleset done_bytes = (done_laid, done_size)
