-- A list cut into messages: each piece has 1 to k items, and put end to end the pieces are the list. So the messages for a list of IDs or hashes are all
-- in range, and what they say, put end to end, is the list.
--
--   pieces-many      each piece of a list of numbers of w bits has 1 to k of them
--   pieces_whole     put end to end they are the list
--   inquiries_good, offers-good, demands-good      what is written for a list is in range
--   inquiries_whole, offers-whole, demands-whole   and says the list
--
-- Assumes nothing.
use mathlib.Core.Path.{◌≡◌, refl, ap, ap₂, ◌∙◌}
use mathlib.Core.Bool.{true}
use mathlib.Core.List.{List, [], ◌∷◌, ◌++◌, map, flatten}
use Prim.Native.Nat.{ℕ, zero, suc, ◌+◌, ◌-◌, ◌*◌, ◌≤◌, ◌<◌}
use native.Mathlib.Nat.{mod-lt, div-add-mod, mul-suc, mul-zero}
use native.Mathlib.Omega.{arith}
use borrow.Author.Tests.{le-leb}
use lib.Dec.{ltb}
use lib.ListN.{length, take, drop, length-take, length-drop, take-append-drop}
use Rattle.bucket.specs.Digits.{Below}
use Rattle.bucket.proofs.TestLaws.{and_holds}
use Rattle.message.specs.Layout.{Content, slice, inquiry, offer, demand, element, done, Good, Many}
use Rattle.message.specs.Writing.{messages, pieces_of, pieces, inquiries_of, offers_of, demands_of}
use Rattle.message.proofs.BackLaws.{AllGoodContents}
use Rattle.message.proofs.WholeLaws.{take_below, drop-below}

-- m pieces of at most k items hold n items, and fewer do not
record Cut (k m n : ℕ) : Type 0 where
  enough : n ≤ k * m
  needed : k * m < n + k

messages-cut : (k n : ℕ) → 1 ≤ k → Cut k (messages k n) n
messages-cut k n h =
    let d = div-add-mod (n + (k - 1)) k in
    let r = mod-lt (n + (k - 1)) h in
    record { enough = omega arith; needed = omega arith }

cut-rest : (k m : ℕ) (l : List ℕ) → Cut k (suc m) (length l) → (k * m < length l) × Cut k m (length (drop k l))
cut-rest k m l c =
    let e = mul-suc k m in
    let d = length-drop k l in
    (omega (arith, c.needed), record { enough = omega (arith, c.enough); needed = omega (arith, c.needed) })

abbrev pub AllMany : ℕ → ℕ → List (List ℕ) → Type 0
AllMany w k [] = Unit {0}
AllMany w k (p ∷ ps) = Many w k p × AllMany w k ps

cut-many : (w k m : ℕ) (l : List ℕ) → 1 ≤ k → Below w l → Cut k m (length l) → AllMany w k (pieces_of k m l)
unfolding pieces_of
cut-many w k zero l h b c = tt
cut-many w k (suc m) l h b c =
    let r = cut-rest k m l c in
    let t = length-take k l in (
      record { number = and_holds (le-leb 1 (length (take k l)) (omega (arith, r.0))) (le-leb (length (take k l)) k (omega arith)); fit = take_below w k l b },
      cut-many w k m (drop k l) h (drop-below w k l b) r.1,
    )

empty : (l : List ℕ) → length l ≤ 0 → [] ≡ l
empty [] h = refl
empty (x ∷ l) h = absurd (omega arith)

cut-whole : (k m : ℕ) (l : List ℕ) → Cut k m (length l) → flatten (pieces_of k m l) ≡ l
unfolding pieces_of flatten
cut-whole k zero l c = empty l (omega (arith, c.enough, mul-zero k))
cut-whole k (suc m) l c =
    ap (λ (r : List ℕ). take k l ++ r) (cut-whole k m (drop k l) (cut-rest k m l c).1) ∙ take-append-drop k l

pub pieces-many : (w k : ℕ) (l : List ℕ) → 1 ≤ k → Below w l → AllMany w k (pieces k l)
pieces-many w k l h b = cut-many w k (messages k (length l)) l h b (messages-cut k (length l) h)

pub pieces_whole : (k : ℕ) (l : List ℕ) → 1 ≤ k → flatten (pieces k l) ≡ l
pieces_whole k l h = cut-whole k (messages k (length l)) l (messages-cut k (length l) h)

-- what is said of each piece
all-good : (w k : ℕ) (say : List ℕ → Content) → ((p : List ℕ) → Many w k p → Good (say p)) → (ps : List (List ℕ)) → AllMany w k ps → AllGoodContents (map say ps)
all-good w k say g [] many = tt
all-good w k say g (p ∷ ps) many = (g p many.0, all-good w k say g ps many.1)

pub inquiries_good : (salt : ℕ) (ids : List ℕ) → ltb salt 64 ≡ true → Below 64 ids → AllGoodContents (inquiries_of salt ids)
inquiries_good salt ids s b =
    all-good 64 8190 (inquiry salt) (λ p many. (s, many)) (pieces 8190 ids) (pieces-many 64 8190 ids (omega arith) b)

pub offers-good : (hashes : List ℕ) → Below 512 hashes → AllGoodContents (offers_of hashes)
offers-good hashes b = all-good 512 1023 offer (λ p many. many) (pieces 1023 hashes) (pieces-many 512 1023 hashes (omega arith) b)

pub demands-good : (hashes : List ℕ) → Below 512 hashes → AllGoodContents (demands_of hashes)
demands-good hashes b = all-good 512 1023 demand (λ p many. many) (pieces 1023 hashes) (pieces-many 512 1023 hashes (omega arith) b)

-- the items of messages of one kind, IDs or hashes
abbrev pub items_of : Content → List ℕ
items_of (slice size offset salt width ids hashes counts) = ids
items_of (inquiry salt ids) = ids
items_of (offer hashes) = hashes
items_of (demand hashes) = hashes
items_of (element bytes) = bytes
items_of (done check) = check ∷ []

-- those of several messages, end to end
abbrev pub all_items : List Content → List ℕ
all_items [] = []
all_items (c ∷ cs) = items_of c ++ all_items cs

all_items_lem : (say : List ℕ → Content) → ((p : List ℕ) → items_of (say p) ≡ p) → (ps : List (List ℕ)) → all_items (map say ps) ≡ flatten ps
unfolding flatten
all_items_lem say e [] = refl
all_items_lem say e (p ∷ ps) = ap₂ (λ (a b : List ℕ). a ++ b) (e p) (all_items_lem say e ps)

pub inquiries_whole : (salt : ℕ) (ids : List ℕ) → all_items (inquiries_of salt ids) ≡ ids
inquiries_whole salt ids = all_items_lem (inquiry salt) (λ p. refl) (pieces 8190 ids) ∙ pieces_whole 8190 ids (omega arith)

pub offers-whole : (hashes : List ℕ) → all_items (offers_of hashes) ≡ hashes
offers-whole hashes = all_items_lem offer (λ p. refl) (pieces 1023 hashes) ∙ pieces_whole 1023 hashes (omega arith)

pub demands-whole : (hashes : List ℕ) → all_items (demands_of hashes) ≡ hashes
demands-whole hashes = all_items_lem demand (λ p. refl) (pieces 1023 hashes) ∙ pieces_whole 1023 hashes (omega arith)
