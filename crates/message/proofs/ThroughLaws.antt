-- A buffer walked through: the walk counts the messages that stand end to end from the start of a buffer, and answers what stands behind them.
--
--   found_inside    a message that is found has four bytes at least, all within the buffer
--   onward          where a message is found, the walk goes on behind it
--   over            where none is found, the walk is over
--   walked_whole    messages in range end to end are walked whole: as many as were written
--   whole_back      a buffer that is walked whole is messages in range end to end: as many as were counted
--   stops-back      where the walk stops there is no message, and before it stand messages in range end to end: as many as were counted
--
-- Assumes nothing.
use mathlib.Core.Path.{◌≡◌, refl, sym, ap, ap₂, ◌∙◌}
use mathlib.Core.Bool.{true, false, true≢false}
use mathlib.Core.List.{List, [], ◌∷◌, ◌++◌}
use Prim.Native.Nat.{ℕ, zero, suc, ◌+◌, ◌-◌, ◌≤◌, ◌<◌}
use native.Mathlib.Nat.{add-zero, zero-add, suc-add}
use native.Mathlib.Omega.{arith}
use lib.ListN.{length, take, drop, length-take, length-drop, length-append}
use lib.Seq.{take_all, take-length, take-add, drop-drop}
use Rattle.std.proofs.Common.{Ok, Err, Some, None}
use Rattle.bucket.specs.Digits.{joined, Below}
use Rattle.bucket.specs.Lists.{part}
use Rattle.bucket.proofs.OverLaws.{part-part}
use Rattle.message.specs.declared.kinds.Message.{Message}
use Rattle.message.specs.declared.reader.Stop.{Stop}
use Rattle.message.specs.Layout.{Content, layout}
use Rattle.message.specs.Reading.{field}
use Rattle.message.specs.Walking.{Walked, found, broken, stopped, walk_at, behind, is_found, ended, walk_on, whole_of}
use Rattle.message.specs.Writing.{layouts}
use Rattle.message.proofs.BackLaws.{AllGoodContents, Walks, bytes_at, sized, walk_ends, walk-found, walk-stops, walks-there}
use Rattle.message.proofs.ExactLaws.{read_exactly}
use Rattle.message.proofs.WholeLaws.{part-below}

-- a message that is found at a position
module _ (s : List ℕ) (at : ℕ) {m : Message} {start next : ℕ} (e : walk_at s at ≡ found m start next) where
  found-size : (4 ≤ field 2 at s) × (length (bytes_at s at) ≡ field 2 at s)
  found-size =
      let f = walk-found s at e in
      let z = sized (bytes_at s at) f.same in
      let four : 4 ≤ field 2 at s = omega (arith, z, length-take (field 2 at s) (drop at s)) in
      (four, sym z.1 ∙ ap (joined 8) (part-part s at (field 2 at s) 0 2 (omega (arith, four))) ∙ ap (λ (n : ℕ). field 2 n s) (add-zero at))

  pub found_inside : (at + 4 ≤ next) × (next ≤ length s)
  found_inside =
      let f = walk-found s at e in
      (omega (arith, f.behind, found-size), omega (arith, f.behind, found-size, length-take (field 2 at s) (drop at s), length-drop at s))

-- the walk goes on, or is over
on_found : (s : List ℕ) (k : ℕ) (w : Walked) (at count : ℕ) → is_found w ≡ true → walk_on (suc k) s w count ≡ walk_on k s (walk_at s (behind w at)) (count + 1)
unfolding walk_on
on_found s k (Some (Ok f)) at count h = refl
on_found s k (Some (Err b)) at count h = absurd (true≢false (sym h))
on_found s k None at count h = absurd (true≢false (sym h))

pub over : (s : List ℕ) (k : ℕ) (w : Walked) (count : ℕ) → is_found w ≡ false → ended w count ≡ walk_on k s w count
unfolding walk_on
over s zero w count h = refl
over s (suc k) (Some (Ok f)) count h = absurd (true≢false h)
over s (suc k) (Some (Err b)) count h = refl
over s (suc k) None count h = refl

pub whole-start : (s : List ℕ) → walk_on (length s - 0) s (walk_at s 0) 0 ≡ whole_of s
unfolding whole_of
whole-start s = ap (λ (k : ℕ). walk_on k s (walk_at s 0) 0) (omega arith)

-- a message was found at a position, with no more messages before it than bytes
pub record Onward (s : List ℕ) (at count : ℕ) : Type 0 where
  pub inside : count < length s
  pub fewer : count + 1 ≤ behind (walk_at s at) at
  pub same : walk_on (length s - count) s (walk_at s at) count ≡ walk_on (length s - (count + 1)) s (walk_at s (behind (walk_at s at) at)) (count + 1)

pub onward : (s : List ℕ) (at count : ℕ) → count ≤ at → is_found (walk_at s at) ≡ true → Onward s at count
onward s at count few there = go (walk_at s at) refl
  where
    go : (w : Walked) → walk_at s at ≡ w → Onward s at count
    go (Some (Ok f)) e =
        let i = found_inside s at e in
        let to : behind (walk_at s at) at ≡ f.next = ap (λ (w : Walked). behind w at) e in
        let left : length s - count ≡ suc (length s - (count + 1)) = omega (arith, i, few) in
        record {
          inside = omega (arith, i, few);
          fewer = omega (arith, i, few, to);
          same = ap (λ (k : ℕ). walk_on k s (walk_at s at) count) left ∙ on_found s (length s - (count + 1)) (walk_at s at) at count there;
        }
    go (Some (Err b)) e = absurd (true≢false (sym there ∙ ap is_found e))
    go None e = absurd (true≢false (sym there ∙ ap is_found e))

-- the walk of messages end to end comes to what stands behind them, and has counted them
walks_through : (s : List ℕ) (cs : List Content) (at k count : ℕ) → Walks s at cs
    → walk_on (length cs + k) s (walk_at s at) count ≡ walk_on k s (walk_at s (at + length (layouts cs))) (count + length cs)
unfolding layouts walk_on
walks_through s [] at k count w = rw (zero-add k, add-zero at, add-zero count)
walks_through s (c ∷ cs) at k count w =
    ap (λ (j : ℕ). walk_on j s (walk_at s at) count) (suc-add (length cs) k)
    ∙ ap (λ (x : Walked). walk_on (suc (length cs + k)) s x count) w.0.found
    ∙ walks_through s cs (at + length (layout c)) k (count + 1) w.1
    ∙ ap₂ (λ (a n : ℕ). walk_on k s (walk_at s a) n) (omega (arith, length-append (layout c) (layouts cs))) (omega arith)

-- there are no more of them than bytes
walks-inside : (s : List ℕ) (cs : List Content) (at : ℕ) → at ≤ length s → Walks s at cs → (length cs ≤ length (layouts cs)) × (at + length (layouts cs) ≤ length s)
unfolding layouts
walks-inside s [] at h w = (omega arith, omega arith)
walks-inside s (c ∷ cs) at h w =
    let i = found_inside s at w.0.found in
    let r = walks-inside s cs (at + length (layout c)) i.1 w.1 in
    let l = length-append (layout c) (layouts cs) in
    (omega (arith, i, r, l), omega (arith, r, l))

whole_walks : (s : List ℕ) (cs : List Content) → Walks s 0 cs → is_found (walk_at s (length (layouts cs))) ≡ false → whole_of s ≡ ended (walk_at s (length (layouts cs))) (length cs)
whole_walks s cs w stops =
    let i = walks-inside s cs 0 (omega arith) w in
    sym (whole-start s)
    ∙ ap (λ (k : ℕ). walk_on k s (walk_at s 0) 0) (omega (arith, i))
    ∙ walks_through s cs 0 (length s - length cs) 0 w
    ∙ ap₂ (λ (a n : ℕ). walk_on (length s - length cs) s (walk_at s a) n) (zero-add (length (layouts cs))) (zero-add (length cs))
    ∙ sym (over s (length s - length cs) (walk_at s (length (layouts cs))) (length cs) stops)

pub walked_whole : (cs : List Content) → AllGoodContents cs → whole_of (layouts cs) ≡ Ok (length cs)
walked_whole cs good =
    let end = (walk_ends (layouts cs) (length (layouts cs))).1 (omega arith) in
    whole_walks (layouts cs) cs (walks-there (layouts cs) 0 cs good (take-length (layouts cs))) (ap is_found end) ∙ ap (λ (w : Walked). ended w (length cs)) end

-- the messages that stand end to end from a position on, as far as they go
record Through (s : List ℕ) (at : ℕ) : Type 0 where
  said : List Content
  good : AllGoodContents said
  bytes : part at (length (layouts said)) s ≡ layouts said
  stops : is_found (walk_at s (at + length (layouts said))) ≡ false

none_here : (s : List ℕ) (at : ℕ) → is_found (walk_at s at) ≡ false → Through s at
unfolding layouts
none_here s at h = record { said = []; good = tt; bytes = refl; stops = rw (add-zero at) h }

module _ (s : List ℕ) (below : Below 8 s) where
  one-here : (at : ℕ) {m : Message} {start next : ℕ} → walk_at s at ≡ found m start next → Through s next → Through s at
  unfolding layouts
  one-here at {m} {start} {next} e more =
      let f = walk-found s at e in
      let l = (read_exactly (bytes_at s at) (part-below at (field 2 at s) s below) m).0 f.same in
      let size : length (layout l.said) ≡ field 2 at s = ap length l.bytes ∙ (found-size s at e).1 in
      let to : at + length (layout l.said) ≡ next = omega (arith, size, f.behind) in
      let both = length-append (layout l.said) (layouts more.said) in
      record {
        said = l.said ∷ more.said;
        good = (l.good, more.good);
        bytes = ap (λ (k : ℕ). part at k s) both
            ∙ take-add (length (layout l.said)) (length (layouts more.said)) (drop at s)
            ∙ ap₂ ◌++◌ (ap (λ (k : ℕ). part at k s) size ∙ sym l.bytes) (ap (take (length (layouts more.said))) (drop-drop (length (layout l.said)) at s ∙ ap (λ (a : ℕ). drop a s) to) ∙ more.bytes);
        stops = ap (λ (a : ℕ). is_found (walk_at s a)) (omega (arith, both, to)) ∙ more.stops;
      }

  through_here : (at : ℕ) → ((next : ℕ) → at < next → Through s next) → Through s at
  through_here at more = go (walk_at s at) refl
    where
      go : (w : Walked) → walk_at s at ≡ w → Through s at
      go (Some (Ok f)) e = one-here at e (more f.next (omega (arith, found_inside s at e)))
      go (Some (Err b)) e = none_here s at (ap is_found e)
      go None e = none_here s at (ap is_found e)

  through : (k at : ℕ) → length s ≤ at + k → Through s at
  through zero at h = none_here s at (ap is_found ((walk_ends s at).1 (omega (arith, h))))
  through (suc k) at h = through_here at (λ next l. through k next (omega (arith, h, l)))

  abbrev messages : Through s 0
  messages = through (length s) 0 (omega arith)

  no_more : is_found (walk_at s (length (layouts messages.said))) ≡ false
  no_more = rw (zero-add (length (layouts messages.said))) at messages.stops

  answered : whole_of s ≡ ended (walk_at s (length (layouts messages.said))) (length messages.said)
  answered = whole_walks s messages.said (walks-there s 0 messages.said messages.good messages.bytes) no_more

-- messages in range end to end
pub record EndToEnd (bs : List ℕ) (n : ℕ) : Type 0 where
  pub said : List Content
  pub good : AllGoodContents said
  pub bytes : layouts said ≡ bs
  pub count : length said ≡ n

pub whole_back : (s : List ℕ) → Below 8 s → {n : ℕ} → whole_of s ≡ Ok n → EndToEnd s n
whole_back s below {n} e = go (walk_at s (length (layouts t.said))) refl
  where
    t : Through s 0
    t = messages s below

    ends : (w : Walked) → walk_at s (length (layouts t.said)) ≡ w → Ok n ≡ ended w (length t.said)
    ends w h = sym e ∙ answered s below ∙ ap (λ (w : Walked). ended w (length t.said)) h

    go : (w : Walked) → walk_at s (length (layouts t.said)) ≡ w → EndToEnd s n
    go (Some (Ok f)) h = absurd (true≢false (sym (ap is_found h) ∙ no_more s below))
    go (Some (Err b)) h = let q = ends (Some (Err b)) h in cc
    go None h =
        let q : Ok n ≡ Ok (length t.said) = ends None h in
        record {
          said = t.said;
          good = t.good;
          bytes = sym t.bytes ∙ take_all (length (layouts t.said)) s ((walk_ends s (length (layouts t.said))).0 h);
          count = cc;
        }

pub stops-back : (s : List ℕ) → Below 8 s → {n start : ℕ} → whole_of s ≡ stopped n start → EndToEnd (take start s) n × (walk_at s start ≡ broken start)
stops-back s below {n} {start} e = go (walk_at s (length (layouts t.said))) refl
  where
    t : Through s 0
    t = messages s below

    ends : (w : Walked) → walk_at s (length (layouts t.said)) ≡ w → stopped n start ≡ ended w (length t.said)
    ends w h = sym e ∙ answered s below ∙ ap (λ (w : Walked). ended w (length t.said)) h

    go : (w : Walked) → walk_at s (length (layouts t.said)) ≡ w → EndToEnd (take start s) n × (walk_at s start ≡ broken start)
    go (Some (Ok f)) h = absurd (true≢false (sym (ap is_found h) ∙ no_more s below))
    go None h = let q = ends None h in cc
    go (Some (Err b)) h =
        let e = ends (Some (Err b)) h in
        let q : ◌≡◌ {A = Stop} (record { count = n; start = start }) (record { count = length t.said; start = b.start }) = cc in
        let same : start ≡ b.start = ap (λ (s : Stop). s.start) q in
        let here : start ≡ length (layouts t.said) = same ∙ (walk-stops s (length (layouts t.said)) h).0 in
        let said : EndToEnd (take start s) n = record { said = t.said; good = t.good; bytes = sym t.bytes ∙ ap (λ (k : ℕ). take k s) (sym here); count = sym (ap (λ (s : Stop). s.count) q) } in
        (said, ap (walk_at s) here ∙ h ∙ ap broken (sym same))
