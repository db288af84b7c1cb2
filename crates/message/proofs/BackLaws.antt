-- What was written is read back: messages written end to end into a buffer are walked one by one, each found at its place with what it says; and a
-- buffer is exactly one message where the walk of it is.
--
--   walk-layout     a message in range between any bytes is found, with the place behind it
--   Walks s at cs   from position at on the walk of s finds the messages cs, one behind the other, and each says what it was
--   walks-there     where the bytes from a position on are those of messages in range, the walk finds them
--   walked-back     the walk of a buffer that messages in range were written into finds them
--   exactly_one_lem     a buffer is read as m exactly where its walk finds m from its start to its end
--   walk-stops      where the walk stops short, it hands out the position that it stands at, and the bytes there are no message
--   walk_ends       the walk ends at the end of the buffer and past it, and nowhere else
--
-- Assumes nothing.
use mathlib.Core.Path.{◌≡◌, refl, sym, ap, ap₂, ◌∙◌}
use mathlib.Core.Bool.{Bool, true, false, ◌&&◌, cond}
use mathlib.Core.List.{List, [], ◌∷◌, ◌++◌}
use Prim.Native.Nat.{ℕ, ◌+◌, ◌≤◌, ◌<◌}
use native.Mathlib.Nat.{add-zero, zero-add}
use native.Mathlib.Omega.{arith}
use borrow.Author.Tests.{leb-true, eqb-true}
use lib.Dec.{eqb, leb}
use lib.ListN.{length, take, drop, length-take, length-drop, length-append}
use lib.Seq.{take-take, take-length, take-append_seam, drop-append_seam}
use Rattle.std.proofs.Common.{Option, Some, None}
use Rattle.bucket.specs.Digits.{joined}
use Rattle.bucket.specs.Lists.{over, part}
use Rattle.bucket.proofs.OverLaws.{part-over, part-part}
use Rattle.message.specs.declared.kinds.Message.{Message}
use Rattle.message.specs.declared.walking.Broken.{Broken}
use Rattle.message.specs.declared.walking.Found.{Found}
use Rattle.message.specs.Layout.{Content, Good, layout}
use Rattle.message.specs.Reading.{field, parse, parse_body, content, head}
use Rattle.message.specs.Walking.{Walked, found, broken, step_of, walk_at}
use Rattle.message.specs.Writing.{layouts}
use Rattle.message.proofs.CompleteLaws.{complete}
use Rattle.message.proofs.ReadLaws.{both}
use Rattle.message.proofs.WalkLaws.{walk_end, walk_on_lem}

-- what is read has the number of bytes that its MSG SIZE says
pub sized : (bs : List ℕ) {m : Message} → parse bs ≡ Some m → (4 ≤ length bs) × (field 2 0 bs ≡ length bs)
unfolding parse
sized bs {m} read = go (leb 4 (length bs) && eqb (field 2 0 bs) (length bs)) refl
  where
    go : (t : Bool) → (leb 4 (length bs) && eqb (field 2 0 bs) (length bs)) ≡ t → (4 ≤ length bs) × (field 2 0 bs ≡ length bs)
    go true h = let b = both (leb 4 (length bs)) (eqb (field 2 0 bs) (length bs)) h in (leb-true 4 (length bs) b.0, eqb-true (field 2 0 bs) (length bs) b.1)
    go false h = let q : None ≡ Some m = sym (ap (λ (t : Bool). cond t (parse_body (field 2 2 bs) bs) None) h) ∙ read in cc

-- what the walk found
pub record Stepped (x : Option Message) (from to : ℕ) (m : Message) (start next : ℕ) : Type 0 where
  pub same : x ≡ Some m
  pub here : start ≡ from
  pub behind : next ≡ to

found-step : (x : Option Message) (from to : ℕ) (m : Message) (start next : ℕ) → step_of x from to ≡ found m start next → Stepped x from to m start next
found-step (Some x) from to m start next e =
    let q : ◌≡◌ {A = Found} (record { message = x; start = from; next = to }) (record { message = m; start = start; next = next }) = cc in
    record { same = ap (λ (f : Found). Some f.message) q; here = sym (ap (λ (f : Found). f.start) q); behind = sym (ap (λ (f : Found). f.next) q) }
found-step None from to m start next e = cc

broken_step : (x : Option Message) (from to start : ℕ) → step_of x from to ≡ broken start → (start ≡ from) × (x ≡ None)
broken_step (Some x) from to start e = cc
broken_step None from to start e =
    let q : ◌≡◌ {A = Broken} (record { start = from }) (record { start = start }) = cc in
    (sym (ap (λ (b : Broken). b.start) q), refl)

end_step : (x : Option Message) (from to : ℕ) → step_of x from to ≡ None → ⊥
end_step (Some x) from to e = cc
end_step None from to e = cc

-- the walk at a position, by what it answers
module _ (s : List ℕ) (at : ℕ) where
  -- the bytes that are read there
  abbrev pub bytes_at : List ℕ
  bytes_at = part at (field 2 at s) s

  stepped : (w : Walked) → walk_at s at ≡ w → (w ≡ None → ⊥) → step_of (parse bytes_at) at (at + field 2 at s) ≡ w
  unfolding walk_at
  stepped w e more = go (leb (length s) at) refl
    where
      go : (t : Bool) → leb (length s) at ≡ t → step_of (parse bytes_at) at (at + field 2 at s) ≡ w
      go true h = absurd (more (sym e ∙ ap (λ (t : Bool). cond t None (step_of (parse bytes_at) at (at + field 2 at s))) h))
      go false h = sym (ap (λ (t : Bool). cond t None (step_of (parse bytes_at) at (at + field 2 at s))) h) ∙ e

  pub walk-found : {m : Message} {start next : ℕ} → walk_at s at ≡ found m start next → Stepped (parse bytes_at) at (at + field 2 at s) m start next
  walk-found {m} {start} {next} e =
      found-step (parse bytes_at) at (at + field 2 at s) m start next (stepped (found m start next) e (λ q. cc))

  pub walk-stops : {start : ℕ} → walk_at s at ≡ broken start → (start ≡ at) × (parse bytes_at ≡ None)
  walk-stops {start} e =
      broken_step (parse bytes_at) at (at + field 2 at s) start (stepped (broken start) e (λ q. cc))

  pub walk_ends : (walk_at s at ≡ None → length s ≤ at) × (length s ≤ at → walk_at s at ≡ None)
  unfolding walk_at
  walk_ends = (λ e. go (leb (length s) at) refl e, λ h. sym (walk_end s at h))
    where
      go : (t : Bool) → leb (length s) at ≡ t → walk_at s at ≡ None → length s ≤ at
      go true h e = leb-true (length s) at h
      go false h e = absurd (end_step (parse bytes_at) at (at + field 2 at s) (sym (ap (λ (t : Bool). cond t None (step_of (parse bytes_at) at (at + field 2 at s))) h) ∙ e))

-- bytes that stand at a position and are read as a message are found there
module _ (s : List ℕ) (at : ℕ) (bs : List ℕ) (m : Message) (there : part at (length bs) s ≡ bs) (read : parse bs ≡ Some m) where
  long : (4 ≤ length bs) × (field 2 0 bs ≡ length bs)
  long = sized bs read

  same_size : field 2 at s ≡ length bs
  same_size = ap (joined 8) (sym (take-take 2 (length bs) (drop at s) (omega (arith, long))) ∙ ap (take 2) there) ∙ long.1

  inside : at < length s
  inside = omega (arith, long, ap length there, length-take (length bs) (drop at s), length-drop at s)

  found-there : walk_at s at ≡ found m at (at + length bs)
  found-there =
      sym (walk_on_lem s at inside)
      ∙ ap₂ (λ (x : Option Message) (k : ℕ). step_of x at (at + k)) (ap (λ (k : ℕ). parse (part at k s)) same_size ∙ ap parse there ∙ read) same_size

pub walk-layout : (pre rest : List ℕ) (c : Content) → Good c
    → walk_at (pre ++ (layout c ++ rest)) (length pre) ≡ found (head c) (length pre) (length pre + length (layout c))
walk-layout pre rest c good =
    found-there (pre ++ (layout c ++ rest)) (length pre) (layout c) (head c)
    (ap (take (length (layout c))) (drop-append_seam pre (layout c ++ rest)) ∙ take-append_seam (layout c) rest)
    (complete c good).read

pub exactly_one_lem : (s : List ℕ) (m : Message)
    → (walk_at s 0 ≡ found m 0 (length s) → parse s ≡ Some m)
    × (parse s ≡ Some m → walk_at s 0 ≡ found m 0 (length s))
exactly_one_lem s m = (
  λ e. let f = walk-found s 0 e in ap parse (sym (take-length s) ∙ ap (λ (k : ℕ). take k s) (f.behind ∙ zero-add (field 2 0 s))) ∙ f.same,
  λ h. found-there s 0 s m (take-length s) h ∙ ap (found m 0) (zero-add (length s)),
)

-- messages one behind the other
pub record Stands (s : List ℕ) (at : ℕ) (c : Content) : Type 0 where
  pub found : walk_at s at ≡ found (head c) at (at + length (layout c))
  pub said : content (head c) (part at (length (layout c)) s) ≡ c

abbrev pub Walks : List ℕ → ℕ → List Content → Type 0
Walks s at [] = Unit {0}
Walks s at (c ∷ cs) = Stands s at c × Walks s (at + length (layout c)) cs

abbrev pub AllGoodContents : List Content → Type 0
AllGoodContents [] = Unit {0}
AllGoodContents (c ∷ cs) = Good c × AllGoodContents cs

pub walks-there : (s : List ℕ) (at : ℕ) (cs : List Content) → AllGoodContents cs → part at (length (layouts cs)) s ≡ layouts cs → Walks s at cs
unfolding layouts
walks-there s at [] good e = tt
walks-there s at (c ∷ cs) good e = (
  record { found = found-there s at (layout c) (head c) front (complete c good.0).read; said = ap (content (head c)) front ∙ (complete c good.0).said },
  walks-there s (at + length (layout c)) cs good.1 behind,
)
  where
    both_lengths : length (layout c ++ layouts cs) ≡ length (layout c) + length (layouts cs)
    both_lengths = length-append (layout c) (layouts cs)

    front : part at (length (layout c)) s ≡ layout c
    front =
        ap (λ (k : ℕ). part k (length (layout c)) s) (sym (add-zero at))
        ∙ sym (part-part s at (length (layout c ++ layouts cs)) 0 (length (layout c)) (omega (arith, both_lengths)))
        ∙ ap (part 0 (length (layout c))) e
        ∙ take-append_seam (layout c) (layouts cs)

    behind : part (at + length (layout c)) (length (layouts cs)) s ≡ layouts cs
    behind =
        sym (part-part s at (length (layout c ++ layouts cs)) (length (layout c)) (length (layouts cs)) (omega (arith, both_lengths)))
        ∙ ap (part (length (layout c)) (length (layouts cs))) e
        ∙ ap (take (length (layouts cs))) (drop-append_seam (layout c) (layouts cs))
        ∙ take-length (layouts cs)

pub walked-back : (out : List ℕ) (at : ℕ) (cs : List Content) → AllGoodContents cs → at + length (layouts cs) ≤ length out → Walks (over at (layouts cs) out) at cs
walked-back out at cs good room = walks-there (over at (layouts cs) out) at cs good (part-over at out (layouts cs) (omega arith))
