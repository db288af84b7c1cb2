-- A ledger's marks laid over lent memory: what stands at an element's place, and one mark changed. Assumes nothing.
--
--   laid_marks t L M     M with the ledger's marks at their places, as a step leaves it
use mathlib.Core.Path.{◌≡◌, sym, ap, ap₂, ◌∙◌}
use mathlib.Core.List.{List, [], ◌∷◌, ◌++◌, append_assoc}
use Prim.Native.Nat.{ℕ, suc, ◌+◌, ◌-◌, ◌≤◌, ◌<◌}
use native.Mathlib.Omega.{arith}
use native.Mathlib.Nat.{zero-add}
use lib.ListN.{length, get_or, take, drop, set, length-map, length-set, length-drop, get_or-append, take-append-drop}
use lib.Seq.{set-append_left, get_or-append-add, drop-append-le, take-append-le, length-take-le, get_or-take, take-set-lt, drop-set-lt}
use Rattle.bucket.specs.Lists.{over, part}
use Rattle.bucket.proofs.OverLaws.{open_over, over-length, part-over, part_length}
use Rattle.filter.specs.Table.{position}
use Rattle.message.proofs.WholeLaws.{part-rest}
use Rattle.ledger.specs.Session.{Ledger}
use Rattle.ledger.specs.Memory.{mark_of, flag_of, marks_of, flags_of}
use Rattle.filter.proofs.SetLaws.{◌∈◌, Asc}
use Rattle.ledger.proofs.PointLaws.{position-within, map-there}

-- ---- one place of what is laid over a list

set_append_right : (xs ys : List ℕ) (q v : ℕ) → set (xs ++ ys) (length xs + q) v ≡ xs ++ set ys q v
set_append_right [] ys q v = ap (λ (n : ℕ). set ys n v) (zero-add q)
set_append_right (x ∷ xs) ys q v =
    let e : suc (length xs) + q ≡ suc (length xs + q) = omega arith in
    ap (λ (n : ℕ). set (x ∷ (xs ++ ys)) n v) e ∙ ap {B = List ℕ} (λ r. x ∷ r) (set_append_right xs ys q v)

module _ (at : ℕ) (xs l : List ℕ) (w : at ≤ length l) where
  pub over-at : (q : ℕ) → q < length xs → get_or (over at xs l) (at + q) 0 ≡ get_or xs q 0
  unfolding over
  over-at q h =
      ap (λ (n : ℕ). get_or (over at xs l) (n + q) 0) (sym (length-take-le at l w))
      ∙ get_or-append-add (take at l) (xs ++ drop (at + length xs) l) q 0
      ∙ get_or-append xs (drop (at + length xs) l) 0 q h

  pub over-before : (p : ℕ) → p < at → get_or (over at xs l) p 0 ≡ get_or l p 0
  unfolding over
  over-before p h =
      get_or-append (take at l) (xs ++ drop (at + length xs) l) 0 p (rw (length-take-le at l w) h) ∙ get_or-take at l p 0 h

  pub set-over : (q v : ℕ) → q < length xs → set (over at xs l) (at + q) v ≡ over at (set xs q v) l
  unfolding over
  set-over q v h =
      ap (λ (n : ℕ). set (over at xs l) (n + q) v) (sym (length-take-le at l w))
      ∙ set_append_right (take at l) (xs ++ drop (at + length xs) l) q v
      ∙ ap (λ (r : List ℕ). take at l ++ r) (set-append_left xs (drop (at + length xs) l) q v h)
      ∙ ap (λ (n : ℕ). take at l ++ (set xs q v ++ drop (at + n) l)) (sym (length-set xs q v))

  pub set_before : (p v : ℕ) → p < at → set (over at xs l) p v ≡ over at xs (set l p v)
  unfolding over
  set_before p v h =
      set-append_left (take at l) (xs ++ drop (at + length xs) l) p v (rw (length-take-le at l w) h)
      ∙ ap₂ (λ (a b : List ℕ). a ++ (xs ++ b)) (sym (take-set-lt at l p v h)) (sym (drop-set-lt (at + length xs) l p v (omega arith)))

-- what is behind is kept
pub over-append : {A : Type 0} (at : ℕ) (xs l r : List A) → at + length xs ≤ length l → over at xs (l ++ r) ≡ over at xs l ++ r
unfolding over
over-append at xs l r h =
    ap₂ (λ (a b : List _). a ++ (xs ++ b)) (take-append-le at l r (omega arith)) (drop-append-le (at + length xs) l r h) ∙ simp append_assoc

-- a part that is there, in a list that may end before it where it is empty
pub part-there : (at n : ℕ) (marks : List ℕ) → n ≤ length marks - at → length (part at n marks) ≡ n
part-there at n marks room = length-take-le n (drop at marks) (rw (length-drop at marks) room)

-- what stands there is written again
pub over-same : (at k : ℕ) (l : List ℕ) → at + k ≤ length l → over at (part at k l) l ≡ l
over-same at k l h =
    open_over at (part at k l) l
    ∙ ap (λ (n : ℕ). take at l ++ (part at k l ++ drop (at + n) l)) (part_length at l k h)
    ∙ ap (λ (q : List ℕ). take at l ++ q) (part-rest at k l)
    ∙ take-append-drop at l

-- ---- a ledger's marks

abbrev pub laid_marks : (ℕ → ℕ) → List ℕ → Ledger → List ℕ → List ℕ
laid_marks derive t L M = over 4096 (flags_of derive t L) (over 0 (marks_of derive t L) M)

module _ (derive : ℕ → ℕ) (t : List ℕ) (L : Ledger) (M : List ℕ) (few : length t ≤ 4096) (fewer : length L.demanded ≤ 4096) (room : 8192 ≤ length M) where
  marks-long : length (marks_of derive t L) ≡ length t
  marks-long = length-map t (mark_of derive t L)

  flags_long : length (flags_of derive t L) ≡ length L.demanded
  flags_long = length-map L.demanded (flag_of derive t L)

  front_long : length (over 0 (marks_of derive t L) M) ≡ length M
  front_long = over-length 0 M (marks_of derive t L) (omega (arith, marks-long))

  pub laid-long : length (laid_marks derive t L M) ≡ length M
  laid-long = over-length 4096 (over 0 (marks_of derive t L) M) (flags_of derive t L) (omega (arith, flags_long, front_long)) ∙ front_long

  front-room : 4096 ≤ length (over 0 (marks_of derive t L) M)
  front-room = omega (arith, front_long)

  -- ---- of an element of the table

  module _ (h : ℕ) (asc : Asc t) (e : h ∈ t) where
    low : position t h < length (marks_of derive t L)
    low = omega (arith, marks-long, position-within t h asc e)

    pub laid_table : get_or (laid_marks derive t L M) (position t h) 0 ≡ mark_of derive t L h
    laid_table =
        over-before 4096 (flags_of derive t L) (over 0 (marks_of derive t L) M) front-room (position t h) (omega (arith, low, marks-long))
        ∙ ap (λ (n : ℕ). get_or (over 0 (marks_of derive t L) M) n 0) (sym (zero-add (position t h)))
        ∙ over-at 0 (marks_of derive t L) M (omega arith) (position t h) low
        ∙ map-there t h asc e (mark_of derive t L)

    set-table : (v : ℕ) → set (laid_marks derive t L M) (position t h) v ≡ over 4096 (flags_of derive t L) (over 0 (set (marks_of derive t L) (position t h) v) M)
    set-table v =
        set_before 4096 (flags_of derive t L) (over 0 (marks_of derive t L) M) front-room (position t h) v (omega (arith, low, marks-long))
        ∙ ap (over 4096 (flags_of derive t L))
        (ap (λ (n : ℕ). set (over 0 (marks_of derive t L) M) n v) (sym (zero-add (position t h))) ∙ set-over 0 (marks_of derive t L) M (omega arith) (position t h) v low)

    -- a ledger that differs in this mark
    pub change-table : (K : Ledger) (f : ℕ → ℕ)
        → marks_of derive t K ≡ set (marks_of derive t L) (position t h) (f (get_or (marks_of derive t L) (position t h) 0))
        → flags_of derive t K ≡ flags_of derive t L
        → set (laid_marks derive t L M) (position t h) (f (get_or (laid_marks derive t L M) (position t h) 0)) ≡ laid_marks derive t K M
    change-table K f changed kept =
        set-table (f (get_or (laid_marks derive t L M) (position t h) 0))
        ∙ ap (λ (v : ℕ). over 4096 (flags_of derive t L) (over 0 (set (marks_of derive t L) (position t h) (f v)) M))
        (laid_table ∙ sym (map-there t h asc e (mark_of derive t L)))
        ∙ ap₂ (λ (ms fs : List ℕ). over 4096 fs (over 0 ms M)) (sym changed) (sym kept)

  -- ---- of a demanded hash

  module _ (h : ℕ) (asc : Asc L.demanded) (e : h ∈ L.demanded) where
    high : position L.demanded h < length (flags_of derive t L)
    high = omega (arith, flags_long, position-within L.demanded h asc e)

    pub laid-known : get_or (laid_marks derive t L M) (4096 + position L.demanded h) 0 ≡ flag_of derive t L h
    laid-known =
        over-at 4096 (flags_of derive t L) (over 0 (marks_of derive t L) M) front-room (position L.demanded h) high
        ∙ map-there L.demanded h asc e (flag_of derive t L)

    set_known : (v : ℕ) → set (laid_marks derive t L M) (4096 + position L.demanded h) v
        ≡ over 4096 (set (flags_of derive t L) (position L.demanded h) v) (over 0 (marks_of derive t L) M)
    set_known v = set-over 4096 (flags_of derive t L) (over 0 (marks_of derive t L) M) front-room (position L.demanded h) v high

    pub change-known : (K : Ledger) (f : ℕ → ℕ)
        → flags_of derive t K ≡ set (flags_of derive t L) (position L.demanded h) (f (get_or (flags_of derive t L) (position L.demanded h) 0))
        → marks_of derive t K ≡ marks_of derive t L
        → set (laid_marks derive t L M) (4096 + position L.demanded h) (f (get_or (laid_marks derive t L M) (4096 + position L.demanded h) 0))
        ≡ laid_marks derive t K M
    change-known K f changed kept =
        set_known (f (get_or (laid_marks derive t L M) (4096 + position L.demanded h) 0))
        ∙ ap (λ (v : ℕ). over 4096 (set (flags_of derive t L) (position L.demanded h) (f v)) (over 0 (marks_of derive t L) M))
        (laid-known ∙ sym (map-there L.demanded h asc e (flag_of derive t L)))
        ∙ ap₂ (λ (ms fs : List ℕ). over 4096 fs (over 0 ms M)) (sym kept) (sym changed)

-- ---- marks laid over the places that a session has, and these over all of them

pub laid-back : (derive : ℕ → ℕ) (t : List ℕ) (L : Ledger) (M : List ℕ) → length t ≤ 4096 → length L.demanded ≤ 4096 → 8192 ≤ length M
    → over 0 (laid_marks derive t L (take 8192 M)) M ≡ laid_marks derive t L M
laid-back derive t L M few fewer room =
    open_over 0 whole M
    ∙ ap (λ (n : ℕ). whole ++ drop n M) long
    ∙ sym (over-append 4096 (flags_of derive t L) (over 0 (marks_of derive t L) (take 8192 M)) (drop 8192 M) (omega (arith, flags_long derive t L M few fewer room, front)))
    ∙ ap (over 4096 (flags_of derive t L)) (sym (over-append 0 (marks_of derive t L) (take 8192 M) (drop 8192 M) (omega (arith, marks-long derive t L M few fewer room, short))) ∙ ap (over 0 (marks_of derive t L)) (take-append-drop 8192 M))
  where
    whole : List ℕ
    whole = laid_marks derive t L (take 8192 M)

    short : length (take 8192 M) ≡ 8192
    short = length-take-le 8192 M room

    front : length (over 0 (marks_of derive t L) (take 8192 M)) ≡ 8192
    front = front_long derive t L (take 8192 M) few fewer (omega (arith, short)) ∙ short

    long : 0 + length whole ≡ 8192
    long = omega (arith, laid-long derive t L (take 8192 M) few fewer (omega (arith, short)), short)

pub laid-front : (derive : ℕ → ℕ) (t : List ℕ) (L : Ledger) (M : List ℕ) → length t ≤ 4096 → length L.demanded ≤ 4096 → 8192 ≤ length M
    → laid_marks derive t L M ≡ M → laid_marks derive t L (take 8192 M) ≡ take 8192 M
laid-front derive t L M few fewer room same =
    sym (part-over 0 M (laid_marks derive t L (take 8192 M)) (omega arith))
    ∙ ap₂ (λ (n : ℕ) (l : List ℕ). take n l) (laid-long derive t L (take 8192 M) few fewer (omega (arith, short)) ∙ short) (laid-back derive t L M few fewer room ∙ same)
  where
    short : length (take 8192 M) ≡ 8192
    short = length-take-le 8192 M room
