-- How many bytes messages take that say IDs, hashes or a checksum, so that there is room for them.
--
--   layouts-append                               messages end to end, of two lists
--   inquiries_size, offers-size, demands-size    the bytes of a list of items, cut into messages
--   inquiries_room, offers-room                  so for at most 4,096 items
--   demands-room                                 so for the hashes of one OFFER
--   done-length                                  DONE
--
-- Assumes nothing.
use mathlib.Core.Path.{◌≡◌, refl, sym, ap, ◌∙◌}
use mathlib.Core.List.{List, [], ◌∷◌, ◌++◌, map, append_assoc}
use Prim.Native.Nat.{ℕ, ◌+◌, ◌*◌, ◌≤◌}
use native.Mathlib.Omega.{arith}
use lib.ListN.{length}
use Rattle.message.specs.Layout.{OFFER, DEMAND, DONE, Content, inquiry, offer, demand, done, layout}
use Rattle.message.specs.Putting.{cut_bytes, framed_hashes}
use Rattle.message.specs.Writing.{layouts, pieces, inquiries_of, offers_of, demands_of}
use Rattle.message.proofs.CutLaws.{cut-length, layouts-map}
use Rattle.message.proofs.HashLaws.{framed-hashes-length}
use Rattle.message.proofs.WriteLaws.{inquiry-length, layouts-one}

pub layouts-append : (a b : List Content) → layouts (a ++ b) ≡ layouts a ++ layouts b
unfolding layouts
layouts-append [] b = refl
layouts-append (c ∷ a) b =
    ap (λ (l : List ℕ). layout c ++ l) (layouts-append a b) ∙ sym (append_assoc (layout c) (layouts a) (layouts b))

-- a list of items cut, at most k in a message: h bytes before them and b for each
said-size : (say : List ℕ → Content) (k h b : ℕ) → 1 ≤ k → ((l : List ℕ) → length (layout (say l)) ≡ h + b * length l)
    → (l : List ℕ) → length (layouts (map say (pieces k l))) ≡ cut_bytes k h b (length l)
said-size say k h b some sized l =
    ap length (layouts-map say (λ q. layout (say q)) (λ q. refl) (pieces k l)) ∙ cut-length k (λ q. layout (say q)) some h b sized l

pub inquiries_size : (salt : ℕ) (ids : List ℕ) → length (layouts (inquiries_of salt ids)) ≡ cut_bytes 8190 8 8 (length ids)
inquiries_size salt ids = said-size (inquiry salt) 8190 8 8 (omega arith) (inquiry-length salt) ids

pub offers-size : (hs : List ℕ) → length (layouts (offers_of hs)) ≡ cut_bytes 1023 4 64 (length hs)
unfolding layout framed_hashes
offers-size hs = said-size offer 1023 4 64 (omega arith) (framed-hashes-length OFFER) hs

pub demands-size : (hs : List ℕ) → length (layouts (demands_of hs)) ≡ cut_bytes 1023 4 64 (length hs)
unfolding layout framed_hashes
demands-size hs = said-size demand 1023 4 64 (omega arith) (framed-hashes-length DEMAND) hs

pub inquiries_room : (salt : ℕ) (ids : List ℕ) → length ids ≤ 4096 → length (layouts (inquiries_of salt ids)) ≤ 32776
inquiries_room salt ids few = omega (arith, inquiries_size salt ids)

pub offers-room : (hs : List ℕ) → length hs ≤ 4096 → length (layouts (offers_of hs)) ≤ 262164
offers-room hs few = omega (arith, offers-size hs)

pub demands-room : (hs : List ℕ) → length hs ≤ 1023 → length (layouts (demands_of hs)) ≤ 65476
demands-room hs few = omega (arith, demands-size hs)

pub done-length : (x : ℕ) → length (layouts (done x ∷ [])) ≡ 68
unfolding layout framed_hashes
done-length x = ap length (layouts-one (done x)) ∙ framed-hashes-length DONE (x ∷ [])
