-- The laws of marks: read at a number, one put on or off, and the first that is on, which two counts of trailing zeros find.
-- Assumes nothing.
use mathlib.Core.Path.{◌≡◌, refl, sym, ap, ◌∙◌}
use mathlib.Core.Logic.{◌≢◌}
use mathlib.Core.Bool.{Bool, true, false, not, cond, true≢false}
use mathlib.Core.List.{List}
use Prim.Native.Nat.{ℕ, ◌+◌, ◌*◌, ◌/◌, ◌%◌, ◌^◌, ◌≤◌, ◌<◌}
use native.Mathlib.Omega.{arith}
use lib.Dec.{eqb, ltb}
use lib.ListN.{get_or, set, replicate, length, length-set, get_or-replicate}
use lib.Seq.{get_or-set_same, get_or-set_other, set_out}
use mir.Syntax.{w64}
use borrow.Author.Tests.{lt-ltb, eq-eqb, ne_eqb, eqb-true, eqb-false, ltb-true, ltb-false}
use Rattle.std.specs.Int.{bit_at, bit_not, trailing_zeros}
use Rattle.std.specs.Prelude.{bit_and, bit_or, Option, Some, None, position}
use Rattle.std.specs.List.{position_or_len}
use Rattle.std.proofs.Common.{ext_get_or}
use Rattle.std.proofs.lemmas.List.FromFn.{length-map-range_with_len, get_or-map-range_with_len}
use Rattle.std.proofs.lemmas.List.Sums.{position_or_len_is, fails_before_first}
use Rattle.std.proofs.lemmas.List.Quantifiers.{position-Some}
use Rattle.std.proofs.lemmas.Nat.Bits.{bit_at-zero, bit_at_set_same, bit_at_set_other, bit_at_clear_same, bit_at_clear_other, bit_at-trailing_zeros}
use Rattle.filter.specs.Marks.{lit, but, marks, mark_in, Topped}

-- ---- a bit

lit_yes : (w j : ℕ) → bit_at w j ≡ 1 → lit w j ≡ true
unfolding lit
lit_yes w j e = eq-eqb (bit_at w j) 1 e

lit_no : (w j : ℕ) → bit_at w j ≡ 0 → lit w j ≡ false
unfolding lit
lit_no w j e = ne_eqb (bit_at w j) 1 (λ f. omega arith)

lit_same : (w v j : ℕ) → bit_at w j ≡ bit_at v j → lit w j ≡ lit v j
unfolding lit
lit_same w v j e = ap (λ (b : ℕ). eqb b 1) e

lit_zero : (j : ℕ) → lit 0 j ≡ false
lit_zero j = lit_no 0 j (bit_at-zero j)

module _ (w j i : ℕ) (l : j < 64) where
  pub lit_on : lit (bit_or w (1 * 2 ^ j % 2 ^ 64)) i ≡ but (lit w) j true i
  lit_on = go (eqb i j) refl
    where
      go : (t : Bool) → eqb i j ≡ t → lit (bit_or w (1 * 2 ^ j % 2 ^ 64)) i ≡ cond t true (lit w i)
      go true e = rw (eqb-true i j e) (lit_yes (bit_or w (1 * 2 ^ j % 2 ^ 64)) j (bit_at_set_same w64 w j l))
      go false e = lit_same (bit_or w (1 * 2 ^ j % 2 ^ 64)) w i (bit_at_set_other w64 w j l i (eqb-false i j e))

  pub lit_off : i < 64 → lit (bit_and w (bit_not w64 (1 * 2 ^ j % 2 ^ 64))) i ≡ but (lit w) j false i
  lit_off h = go (eqb i j) refl
    where
      go : (t : Bool) → eqb i j ≡ t → lit (bit_and w (bit_not w64 (1 * 2 ^ j % 2 ^ 64))) i ≡ cond t false (lit w i)
      go true e = rw (eqb-true i j e) (lit_no (bit_and w (bit_not w64 (1 * 2 ^ j % 2 ^ 64))) j (bit_at_clear_same w64 w j l))
      go false e = lit_same (bit_and w (bit_not w64 (1 * 2 ^ j % 2 ^ 64))) w i (bit_at_clear_other w64 w j l i h (eqb-false i j e))

-- ---- marks, read at a number

marks-length : (g : ℕ → Bool) → length (marks g) ≡ 4096
unfolding marks
marks-length g = length-map-range_with_len g 0 4096

marks-at : (g : ℕ → Bool) (b : ℕ) → b < 4096 → get_or (marks g) b false ≡ g b
unfolding marks
marks-at g b l = get_or-map-range_with_len g 0 4096 b b false l (omega arith)

marks-from : (g : ℕ → Bool) (l : List Bool) → length l ≡ 4096 → ((b : ℕ) → b < 4096 → get_or l b false ≡ g b) → l ≡ marks g
marks-from g l e h =
    ext_get_or false l (marks g) (e ∙ sym (marks-length g)) (λ b k. h b (omega (arith, e)) ∙ sym (marks-at g b (omega (arith, e))))

pub marks-same : (f g : ℕ → Bool) → ((b : ℕ) → b < 4096 → f b ≡ g b) → marks f ≡ marks g
marks-same f g h = marks-from g (marks f) (marks-length f) (λ b l. marks-at f b l ∙ h b l)

-- one of them put on or off
pub marks-but : (g : ℕ → Bool) (b : ℕ) (on : Bool) → b < 4096 → set (marks g) b on ≡ marks (but g b on)
marks-but g b on l = marks-from (but g b on) (set (marks g) b on) (length-set (marks g) b on ∙ marks-length g) (λ i k. go i k (eqb i b) refl)
  where
    go : (i : ℕ) → i < 4096 → (t : Bool) → eqb i b ≡ t → get_or (set (marks g) b on) i false ≡ cond (eqb i b) on (g i)
    go i k true e = rw (e, eqb-true i b e) (get_or-set_same (marks g) b on false (omega (arith, marks-length g)))
    go i k false e = rw e (get_or-set_other (marks g) b i on false (eqb-false i b e) ∙ marks-at g i k)

-- the same of any number: one behind them all puts nothing
pub marks-any : (g : ℕ → Bool) (b : ℕ) (on : Bool) → set (marks g) b on ≡ marks (but g b on)
marks-any g b on = go (ltb b 4096) refl
  where
    go : (t : Bool) → ltb b 4096 ≡ t → set (marks g) b on ≡ marks (but g b on)
    go true h = marks-but g b on (ltb-true b 4096 h)
    go false h =
        let past = ltb-false b 4096 h in
        set_out (marks g) b on (omega (arith, marks-length g, past))
        ∙ marks-same g (but g b on) (λ i l. ap (λ (t : Bool). cond t on (g i)) (sym (ne_eqb i b (omega (arith, past, l)))))

-- ---- the first that is on

pub record Least (g : ℕ → Bool) (r : ℕ) : Type 0 where
  pub small : r < 4096
  pub here : g r ≡ true
  pub below : (i : ℕ) → i < r → g i ≡ false

module _ (g : ℕ → Bool) where
  at : (i : ℕ) → i ≤ 4096 → ((k : ℕ) → k < i → g k ≡ false) → (i < 4096 → g i ≡ true) → position_or_len (λ on. on) (marks g) ≡ i
  at i l h y =
      position_or_len_is (λ on. on) (marks g) i false (omega (arith, marks-length g)) (λ k m. marks-at g k (omega arith) ∙ h k m)
      (λ m. marks-at g i (omega (arith, marks-length g)) ∙ y (omega (arith, marks-length g)))

  pub first_none : ((b : ℕ) → b < 4096 → g b ≡ false) → None ≡ position (λ on. on) (marks g)
  first_none h = rw (at 4096 (omega arith) h (λ l. absurd (omega arith)), marks-length g) refl

  pub first_some : {r : ℕ} → Least g r → Some r ≡ position (λ on. on) (marks g)
  first_some {r} m = rw (at r (omega (arith, m.small)) m.below (λ l. m.here), marks-length g, lt-ltb r 4096 m.small) refl

  pub none_first : None ≡ position (λ on. on) (marks g) → (b : ℕ) → b < 4096 → g b ≡ false
  none_first e b l =
      let past = go (ltb (position_or_len (λ on. on) (marks g)) (length (marks g))) refl in
      sym (marks-at g b l) ∙ fails_before_first (λ on. on) (marks g) b false (omega (arith, marks-length g))
    where
      none_ne : {i : ℕ} → ◌≡◌ {A = Option ℕ} None (Some i) → ⊥
      none_ne k = cc

      go : (t : Bool) → ltb (position_or_len (λ on. on) (marks g)) (length (marks g)) ≡ t → length (marks g) ≤ position_or_len (λ on. on) (marks g)
      go true k = absurd (none_ne {i = position_or_len (λ on. on) (marks g)} (e ∙ rw k refl))
      go false k = ltb-false (position_or_len (λ on. on) (marks g)) (length (marks g)) k

  pub some_first : {r : ℕ} → Some r ≡ position (λ on. on) (marks g) → Least g r
  some_first {r} e =
      let (l, h, b) = position-Some (λ on. on) (marks g) r false (sym e) in
      let small : r < 4096 = omega (arith, marks-length g) in
      record { small = small; here = sym (marks-at g r small) ∙ h; below = λ i k. sym (marks-at g i (omega arith)) ∙ b i k }

-- ---- the words

pub topped_none : Topped (replicate 64 0) 0
topped_none = record { each = λ w l. rw (get_or-replicate {A = ℕ} 64 w 0 0 l) (lit_zero w) }

pub marks_none : marks (mark_in (replicate 64 0)) ≡ marks (λ b. false)
marks_none = marks-same (mark_in (replicate 64 0)) (λ b. false) (λ b l. rw (get_or-replicate {A = ℕ} 64 (b / 64) 0 0 (omega arith)) (lit_zero (b % 64)))

-- w is the new word of b, and r the new top word
pub topped_but : (bits : List ℕ) (top b w r : ℕ) (on : Bool) → b < 4096
    → ((i : ℕ) → i < 64 → lit r i ≡ but (lit top) (b / 64) (not (eqb w 0)) i) → length bits ≡ 64
    → Topped bits top → Topped (set bits (b / 64) w) r
topped_but bits top b w r on h pr n m = record { each = λ v l. pr v l ∙ go v l (eqb v (b / 64)) refl }
  where
    go : (v : ℕ) → v < 64 → (t : Bool) → eqb v (b / 64) ≡ t → but (lit top) (b / 64) (not (eqb w 0)) v ≡ not (eqb (get_or (set bits (b / 64) w) v 0) 0)
    go v l true e = rw (e, eqb-true v (b / 64) e, get_or-set_same bits (b / 64) w 0 (omega (arith, n))) refl
    go v l false e = rw (e, get_or-set_other bits (b / 64) v w 0 (eqb-false v (b / 64) e)) (m.each v l)

pub mark_but : (bits : List ℕ) (b w : ℕ) (on : Bool) → b < 4096
    → ((i : ℕ) → i < 64 → lit w i ≡ but (lit (get_or bits (b / 64) 0)) (b % 64) on i) → length bits ≡ 64
    → marks (mark_in (set bits (b / 64) w)) ≡ set (marks (mark_in bits)) b on
mark_but bits b w on h pw n = marks-same (mark_in (set bits (b / 64) w)) (but (mark_in bits) b on) each ∙ sym (marks-but (mark_in bits) b on h)
  where
    word : (i : ℕ) → i / 64 ≡ b / 64 → lit (get_or (set bits (b / 64) w) (i / 64) 0) (i % 64) ≡ but (lit (get_or bits (b / 64) 0)) (b % 64) on (i % 64)
    word i s = rw (s, get_or-set_same bits (b / 64) w 0 (omega (arith, n))) (pw (i % 64) (omega arith))

    each : (i : ℕ) → i < 4096 → mark_in (set bits (b / 64) w) i ≡ but (mark_in bits) b on i
    each i l = go (eqb (i / 64) (b / 64)) refl (eqb (i % 64) (b % 64)) refl
      where
        go : (t : Bool) → eqb (i / 64) (b / 64) ≡ t → (u : Bool) → eqb (i % 64) (b % 64) ≡ u → mark_in (set bits (b / 64) w) i ≡ but (mark_in bits) b on i
        go true e true k =
            let s : i / 64 ≡ b / 64 = eqb-true (i / 64) (b / 64) e in
            let q : i % 64 ≡ b % 64 = eqb-true (i % 64) (b % 64) k in
            word i s ∙ rw (k, eq-eqb i b (omega arith)) refl
        go true e false k =
            let s : i / 64 ≡ b / 64 = eqb-true (i / 64) (b / 64) e in
            word i s ∙ rw (k, ne_eqb i b (λ q. eqb-false (i % 64) (b % 64) k (ap (λ (n : ℕ). n % 64) q))) (ap (λ (n : ℕ). lit (get_or bits n 0) (i % 64)) (sym s))
        go false e u k =
            rw (get_or-set_other bits (b / 64) (i / 64) w 0 (eqb-false (i / 64) (b / 64) e), ne_eqb i b (λ q. eqb-false (i / 64) (b / 64) e (ap (λ (n : ℕ). n / 64) q))) refl

-- ---- the least

module _ (bits : List ℕ) (top : ℕ) (m : Topped bits top) where
  -- a number of a word that the top word does not name is off
  word_out : (b : ℕ) → b < 4096 → lit top (b / 64) ≡ false → mark_in bits b ≡ false
  word_out b h e = go (eqb (get_or bits (b / 64) 0) 0) refl
    where
      go : (t : Bool) → eqb (get_or bits (b / 64) 0) 0 ≡ t → mark_in bits b ≡ false
      go true z = rw (eqb-true (get_or bits (b / 64) 0) 0 z) (lit_zero (b % 64))
      go false z = absurd (true≢false (sym (m.each (b / 64) (omega arith) ∙ ap not z) ∙ e))

  pub all_out : top ≡ 0 → (b : ℕ) → b < 4096 → mark_in bits b ≡ false
  all_out e b h = word_out b h (ap (λ (n : ℕ). lit n (b / 64)) e ∙ lit_zero (b / 64))

  module _ (some : 0 < top) (fit : top < 2 ^ 64) (fits : get_or bits (trailing_zeros w64 top) 0 < 2 ^ 64) where
    -- the first word that is not zero, and its lowest bit
    abbrev word : ℕ
    word = trailing_zeros w64 top

    abbrev bit : ℕ
    bit = trailing_zeros w64 (get_or bits word 0)

    word_in : word < 64
    word_in = (bit_at-trailing_zeros w64 top some fit).0

    full : 0 < get_or bits word 0
    full = go (eqb (get_or bits word 0) 0) refl
      where
        go : (t : Bool) → eqb (get_or bits word 0) 0 ≡ t → 0 < get_or bits word 0
        go true z = absurd (true≢false (sym (lit_yes top word (bit_at-trailing_zeros w64 top some fit).1) ∙ m.each word word_in ∙ ap not z))
        go false z = let ne : get_or bits word 0 ≢ 0 = eqb-false (get_or bits word 0) 0 z in omega arith

    bit_in : bit < 64
    bit_in = (bit_at-trailing_zeros w64 (get_or bits word 0) full fits).0

    pub least_on : Least (mark_in bits) (word * 64 + bit)
    least_on = record {
      small = omega (arith, word_in, bit_in);
      here = rw (at_word, at_bit) (lit_yes (get_or bits word 0) bit (bit_at-trailing_zeros w64 (get_or bits word 0) full fits).1);
      below = λ k h. go k h (ltb (k / 64) word) refl;
    }
      where
        at_word : (word * 64 + bit) / 64 ≡ word
        at_word = omega (arith, bit_in)

        at_bit : (word * 64 + bit) % 64 ≡ bit
        at_bit = omega (arith, bit_in)

        go : (k : ℕ) → k < word * 64 + bit → (t : Bool) → ltb (k / 64) word ≡ t → mark_in bits k ≡ false
        go k h true e =
            let b : k / 64 < word = ltb-true (k / 64) word e in
            word_out k (omega (arith, word_in, bit_in)) (lit_no top (k / 64) ((bit_at-trailing_zeros w64 top some fit).2 (k / 64) b))
        go k h false e =
            let b : word ≤ k / 64 = ltb-false (k / 64) word e in
            let same : k / 64 ≡ word = omega (arith, bit_in) in
            rw same (lit_no (get_or bits word 0) (k % 64) ((bit_at-trailing_zeros w64 (get_or bits word 0) full fits).2 (k % 64) (omega arith)))
