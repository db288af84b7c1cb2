-- The laws of trees of noted numbers: none noted, whatever was left there; one more noted, at an empty place; and the search down one tree,
-- which passes over no number that it looks for. Assumes nothing.
use mathlib.Core.Path.{◌≡◌, refl, sym, ap, subst, ◌∙◌}
use mathlib.Core.Logic.{◌≢◌}
use mathlib.Core.Bool.{Bool, true, false, cond}
use mathlib.Core.List.{List, [], ◌∷◌, ◌++◌}
use Prim.Native.Nat.{ℕ, zero, suc, ◌+◌, ◌*◌, ◌-◌, ◌/◌, ◌%◌, ◌^◌, ◌≤◌, ◌<◌, zero-le}
use native.Mathlib.Nat.{suc-mul, add-mul, mul_assoc, mul_comm, pow-succ', pow-le-pow_right, div-add-mod'}
use native.Mathlib.Omega.{arith}
use lib.Dec.{eqb, ltb}
use lib.ListN.{length, get_or, set, length-set, length-append, get_or-append}
use lib.Seq.{get_or-set_same, get_or-set_other, get_or-append_seam}
use borrow.Author.Tests.{eqb-true, eqb-false, eq-eqb, ne_eqb, ltb-true, ltb-false}
use Rattle.bucket.specs.Lists.{elem}
use Rattle.bucket.proofs.ListLaws.{elem_at, at_index}
use Rattle.filter.specs.Repeats.{Live, child, Leads, here, next, Led, Spot, below, Forest, Ends}

-- ---- the numbers noted

elem_none : (v : ℕ) (seen : List ℕ) → ((j : ℕ) → j < length seen → get_or seen j 0 ≢ v) → elem v seen ≡ false
elem_none v seen h = go (elem v seen) refl
  where
    go : (t : Bool) → elem v seen ≡ t → t ≡ false
    go true e = let (j, l, s) = at_index v seen e in absurd (h j l s)
    go false e = refl

pub elem_some : (v : ℕ) (seen : List ℕ) (j : ℕ) → j < length seen → get_or seen j 0 ≡ v → elem v seen ≡ true
elem_some v seen j l e = subst (λ (x : ℕ). elem x seen ≡ true) e (elem_at seen j l)

-- ---- none noted, whatever was left there

abbrev root : ℕ → Spot
root q = record { span = 4096; path = q }

pub forest_none : (heads links : List ℕ) → length heads ≡ 4096 → length links ≡ 8192 → Forest heads links []
forest_none heads links h l = record {
  heads-len = h;
  links-len = l;
  stands = λ j a. absurd (omega arith);
  spots = λ k. root 0;
  roots = λ j a. absurd (omega arith);
  later = λ i a. absurd (omega arith);
}

-- ---- the search

-- one link more at the end of a walk, and one less at its start
leads_last : {links : List ℕ} {j u k w : ℕ} → Leads links j u k w → 0 < child links j u → Leads links (child links j u - 1) (u / 2) k w
leads_last here p = next p here
leads_last (next q r) p = next q (leads_last r p)

leads_on : {links : List ℕ} {j u k w : ℕ} → Leads links j u k w → k ≢ j
    → (0 < child links k w) × Leads links j u (child links k w - 1) (w / 2)
leads_on here ne = absurd (ne refl)
leads_on (next p r) ne = (p, r)

pub steps : {links : List ℕ} {j u k w : ℕ} → Leads links j u k w → ℕ
steps here = 0
steps (next p r) = suc (steps r)

-- the search for v stands at number k, with the bits w to come: v, if it was noted, lies below
pub record Search (v : ℕ) (heads links seen : List ℕ) (k w : ℕ) : Type 0 where
  pub inside : k < length seen
  pub came : Led v heads links seen k w
  pub goes : (j : ℕ) → j < length seen → get_or seen j 0 ≡ v → (u : ℕ) × Leads links j u k w

module _ {heads links seen : List ℕ} (v : ℕ) (c : Forest heads links seen) where
  stood : (j : ℕ) (l : j < length seen) → get_or seen j 0 ≡ v → Led v heads links seen j (c.stands j l).0
  stood j l e = subst (λ (x : ℕ). Led x heads links seen j (c.stands j l).0) e (c.stands j l).1

  pub search-none : (Live heads seen (v % 4096) → ⊥) → elem v seen ≡ false
  search-none dead = elem_none v seen (λ j l e. dead (stood j l e).live)

  pub search-start : {p : ℕ} → (p ≡ get_or heads (v % 4096) 0 - 1) × Live heads seen (v % 4096) → Search v heads links seen p (v / 4096)
  search-start (e, a) = rw e (record {
    inside = omega (arith, a.some, a.within);
    came = record { live = a; leads = here };
    goes = λ j l f. ((c.stands j l).0, (stood j l f).leads);
  })

  live-root : {q : ℕ} → Live heads seen q → c.spots (get_or heads q 0 - 1) ≡ root q
  live-root {q} a =
      subst (λ (x : ℕ). c.spots (get_or heads x 0 - 1) ≡ root x) a.mine (c.roots (get_or heads q 0 - 1) (omega (arith, a.some, a.within)))

  module _ {k w : ℕ} (s : Search v heads links seen k w) (ne : get_or seen k 0 ≢ v) where
    on : (j : ℕ) (l : j < length seen) (e : get_or seen j 0 ≡ v) → (0 < child links k w) × Leads links j (s.goes j l e).0 (child links k w - 1) (w / 2)
    on j l e = leads_on (s.goes j l e).1 (λ q. ne (ap (λ (x : ℕ). get_or seen x 0) q ∙ e))

    pub search_on : 0 < child links k w → Search v heads links seen (child links k w - 1) (w / 2)
    search_on p = record {
      inside = omega (arith, (c.later (2 * k + w % 2) (omega (arith, s.inside))).0);
      came = record { live = s.came.live; leads = leads_last s.came.leads p };
      goes = λ j l e. ((s.goes j l e).0, (on j l e).1);
    }

    pub search-end : child links k w ≡ 0 → (elem v seen ≡ false) × Ends v heads links seen (2 * k + w % 2)
    search-end e = (
      elem_none v seen (λ j l f. omega (arith, (on j l f).0)),
      record { from = k; rest = w; led = s.came; place = refl; inside = omega (arith, s.inside); empty = e },
    )

-- ---- how long a search is

under : (u s p x : ℕ) → x ≡ u * s + p → x < s → x ≡ p
under zero s p x e l = omega arith
under (suc u) s p x e l = absurd (omega (arith, suc-mul u s))

bit_further : (w s p : ℕ) → w * s + p ≡ w / 2 * (2 * s) + (p + w % 2 * s)
bit_further w s p =
    ap (λ (x : ℕ). x * s + p) (sym (div-add-mod' w 2)) ∙ ap (λ (x : ℕ). x + p) (add-mul (w / 2 * 2) (w % 2) s)
    ∙ ap (λ (x : ℕ). x + w % 2 * s + p) (mul_assoc (w / 2) 2 s) ∙ omega arith

module _ {heads links seen : List ℕ} (c : Forest heads links seen) where
  -- the bits to come at a number, above those that lead to it
  spanned : {j u k w : ℕ} (r : Leads links j u k w) → k < length seen → {x : ℕ} → x ≡ w * (c.spots k).span + (c.spots k).path
      → (x ≡ u * (c.spots j).span + (c.spots j).path) × ((c.spots j).span ≡ (c.spots k).span * 2 ^ steps r)
  unfolding steps
  spanned here l e = (e, omega arith)
  spanned {k = k} {w = w} (next p r) l e =
      let s = c.spots k in
      let (few, a) = c.later (2 * k + w % 2) (omega arith) in
      let half : (2 * k + w % 2) / 2 ≡ k = omega arith in
      let bit : (2 * k + w % 2) % 2 ≡ w % 2 = omega arith in
      let spot : c.spots (child links k w - 1) ≡ below s (w % 2) = rw (half, bit) at (a p).1 in
      let (f, g) = spanned r (omega (arith, few, p)) (e ∙ bit_further w s.span s.path ∙ rw spot refl) in (
        f,
        g ∙ ap (λ (x : Spot). x.span * 2 ^ steps r) spot ∙ ap (λ (x : ℕ). x * 2 ^ steps r) (mul_comm 2 s.span) ∙ mul_assoc s.span 2 (2 ^ steps r)
            ∙ ap (λ (x : ℕ). s.span * x) (sym (pow-succ' 2 (steps r))),
      )

  led_spanned : {v k u : ℕ} (s : Led v heads links seen k u)
      → (v ≡ u * (c.spots k).span + (c.spots k).path) × ((c.spots k).span ≡ 4096 * 2 ^ steps s.leads)
  led_spanned {v} s =
      let e = live-root v c s.live in
      let (f, g) = spanned s.leads (omega (arith, s.live.some, s.live.within)) (sym (div-add-mod' v 4096) ∙ rw e refl) in
      (f, rw e at g)

  -- A number that the search passes over is reached in less than 52 steps. So the search passes over 52 numbers at most.
  pub walk-short : {v k u : ℕ} → v < 2 ^ 64 → get_or seen k 0 < 2 ^ 64 → k < length seen → (s : Led v heads links seen k u) → get_or seen k 0 ≢ v
      → steps s.leads < 52
  walk-short {v} {k} {u} h g l s ne = go (ltb (steps s.leads) 52) refl
    where
      go : (t : Bool) → ltb (steps s.leads) 52 ≡ t → steps s.leads < 52
      go true e = ltb-true (steps s.leads) 52 e
      go false e =
          let powers : 2 ^ 52 ≤ 2 ^ steps s.leads = pow-le-pow_right {n = 2} (omega arith) (ltb-false (steps s.leads) 52 e) in
          let big : 2 ^ 64 ≤ (c.spots k).span = omega (arith, (led_spanned s).1, powers) in
          let (o, t) = c.stands k l in
          absurd (ne (under o (c.spots k).span (c.spots k).path (get_or seen k 0) (led_spanned t).0 (omega arith)
          ∙ sym (under u (c.spots k).span (c.spots k).path v (led_spanned s).0 (omega arith))))

-- ---- one more noted

-- the two links of the new number
abbrev cleared : ℕ → List ℕ → List ℕ
cleared n links = set (set links (2 * n) 0) (2 * n + 1) 0

cleared_old : (n i : ℕ) (links : List ℕ) → i < 2 * n → get_or (cleared n links) i 0 ≡ get_or links i 0
cleared_old n i links l =
    get_or-set_other (set links (2 * n) 0) (2 * n + 1) i 0 0 (λ e. omega arith) ∙ get_or-set_other links (2 * n) i 0 0 (λ e. omega arith)

-- what holds of an element set and of the others
set-each : (P : ℕ → Type 0) (l : List ℕ) (i j a : ℕ) → i < length l → (j ≡ i → P a) → (j ≢ i → P (get_or l j 0)) → P (get_or (set l i a) j 0)
set-each P l i j a h p q = go (eqb j i) refl
  where
    go : (t : Bool) → eqb j i ≡ t → P (get_or (set l i a) j 0)
    go true e = rw (eqb-true j i e, get_or-set_same l i a 0 h) (p (eqb-true j i e))
    go false e = rw (get_or-set_other l i j a 0 (eqb-false j i e)) (q (eqb-false j i e))

module _ (f : ℕ → Spot) (n : ℕ) (s : Spot) where
  abbrev with_spot : ℕ → Spot
  with_spot k = cond (eqb k n) s (f k)

  spot_new : with_spot n ≡ s
  spot_new = rw (eq-eqb n n refl) refl

  spot_old : (k : ℕ) → k < n → with_spot k ≡ f k
  spot_old k l = rw (ne_eqb k n (λ e. omega arith)) refl

-- Trees of n numbers, and another at an empty place: heads and links change only where they led to no number.
module _ {heads links seen : List ℕ} (n v : ℕ) (many : length seen ≡ n) (room : n < 4096) (c : Forest heads links seen) where
  more : length (seen ++ v ∷ []) ≡ n + 1
  more = omega (arith, length-append seen (v ∷ []))

  new : get_or (seen ++ v ∷ []) n 0 ≡ v
  new = subst (λ (k : ℕ). get_or (seen ++ v ∷ []) k 0 ≡ v) many (get_or-append_seam seen v [] 0)

  old : (j : ℕ) → j < n → get_or (seen ++ v ∷ []) j 0 ≡ get_or seen j 0
  old j l = get_or-append seen (v ∷ []) 0 j (omega arith)

  abbrev Linked : (s : Spot) (i x : ℕ) → Type 0
  Linked s i x = (x ≤ n + 1) × (0 < x → (i + 2 < 2 * x) × (with_spot c.spots n s (x - 1) ≡ below (with_spot c.spots n s (i / 2)) (i % 2)))

  linked_old : (s : Spot) (i : ℕ) → i < 2 * n → Linked s i (get_or links i 0)
  linked_old s i l = let (few, a) = c.later i (omega arith) in
      (omega arith, λ p. ((a p).0, rw (spot_old c.spots n s (get_or links i 0 - 1) (omega arith), spot_old c.spots n s (i / 2) (omega arith)) (a p).1))

  linked_new : (i : ℕ) → i < 2 * n → Linked (below (c.spots (i / 2)) (i % 2)) i (n + 1)
  linked_new i l =
      let s = below (c.spots (i / 2)) (i % 2) in
      let back : n + 1 - 1 ≡ n = omega arith in
      (omega arith, λ _. (omega arith, ap (with_spot c.spots n s) back ∙ spot_new c.spots n s ∙ ap (λ (x : Spot). below x (i % 2)) (sym (spot_old c.spots n s (i / 2) (omega arith)))))

  module _ (heads' links' : List ℕ) (roots : (q : ℕ) → Live heads seen q → get_or heads' q 0 ≡ get_or heads q 0)
      (kept : (i : ℕ) → 0 < get_or links i 0 → get_or links' i 0 ≡ get_or links i 0) where
    leads-kept : {j u k w : ℕ} → k < n → Leads links j u k w → Leads (cleared n links') j u k w
    leads-kept h here = here
    leads-kept {k = k} {w = w} h (next p r) =
        let l : 2 * k + w % 2 < 2 * n = omega arith in
        let same = cleared_old n (2 * k + w % 2) links' l ∙ kept (2 * k + w % 2) p in
        next {k = k} {w = w} (rw same p) (rw same (leads-kept (omega (arith, p, (c.later (2 * k + w % 2) (omega arith)).0)) r))

    led-kept : {x j u : ℕ} → Led x heads links seen j u → Led x heads' (cleared n links') (seen ++ v ∷ []) j u
    led-kept {x} s =
        let e = roots (x % 4096) s.live in
        let a = s.live in
        record {
          live = record {
            some = omega (arith, e, a.some);
            within = omega (arith, e, a.within, more);
            mine = rw (e, old (get_or heads (x % 4096) 0 - 1) (omega (arith, a.some, a.within))) a.mine;
          };
          leads = rw e (leads-kept (omega (arith, a.some, a.within)) s.leads);
        }

    grown : (s : Spot) → length heads' ≡ 4096 → length links' ≡ 8192
        → with_spot c.spots n s (get_or heads' (v % 4096) 0 - 1) ≡ root (v % 4096)
        → ((i : ℕ) → i < 2 * n → Linked s i (get_or links' i 0))
        → (u : ℕ) × Led v heads' (cleared n links') (seen ++ v ∷ []) n u
        → Forest heads' (cleared n links') (seen ++ v ∷ [])
    grown s hl ll top linked (u, led) = record {
      heads-len = hl;
      links-len = simp length-set ll;
      stands = λ j l. stands j (omega (arith, more, l)) (eqb j n) refl;
      spots = with_spot c.spots n s;
      roots = λ j l. rooted j (omega (arith, more, l)) (eqb j n) refl;
      later = λ i l. rw more (clear i (omega (arith, more, l)));
    }
      where
        clear : (i : ℕ) → i < 2 * (n + 1) → Linked s i (get_or (cleared n links') i 0)
        clear i l =
            let none : Linked s i 0 = (zero-le, λ p. absurd (omega arith)) in
            set-each (Linked s i) (set links' (2 * n) 0) (2 * n + 1) i 0 (simp length-set (omega arith)) (λ _. none)
            (λ a. set-each (Linked s i) links' (2 * n) i 0 (omega arith) (λ _. none) (λ b. linked i (omega (arith, a, b))))

        rooted : (j : ℕ) → j < n + 1 → (t : Bool) → eqb j n ≡ t
            → with_spot c.spots n s (get_or heads' (get_or (seen ++ v ∷ []) j 0 % 4096) 0 - 1) ≡ root (get_or (seen ++ v ∷ []) j 0 % 4096)
        rooted j l true e = rw (eqb-true j n e, new) top
        rooted j l false e =
            let less : j < n = omega (arith, eqb-false j n e) in
            let live = (c.stands j (omega arith)).1.live in
            rw (old j less, roots (get_or seen j 0 % 4096) live)
            (spot_old c.spots n s (get_or heads (get_or seen j 0 % 4096) 0 - 1) (omega (arith, live.some, live.within)) ∙ c.roots j (omega arith))

        stands : (j : ℕ) → j < n + 1 → (t : Bool) → eqb j n ≡ t
            → (w : ℕ) × Led (get_or (seen ++ v ∷ []) j 0) heads' (cleared n links') (seen ++ v ∷ []) j w
        stands j l true e = rw (eqb-true j n e, new) (u, led)
        stands j l false e =
            let less : j < n = omega (arith, eqb-false j n e) in
            let (w, there) = c.stands j (omega arith) in
            rw (old j less) (w, led-kept there)

  -- where the search ended
  pub grown_head : (Live heads seen (v % 4096) → ⊥) → Forest (set heads (v % 4096) (n + 1)) (cleared n links) (seen ++ v ∷ [])
  grown_head dead =
      let h : v % 4096 < length heads = omega (arith, c.heads-len) in
      let led = get_or-set_same heads (v % 4096) (n + 1) 0 h in
      let back : n + 1 - 1 ≡ n = omega arith in
      grown (set heads (v % 4096) (n + 1)) links
      (λ q l. get_or-set_other heads (v % 4096) q (n + 1) 0 (λ f. dead (subst (Live heads seen) f l))) (λ i _. refl) (root (v % 4096))
      (length-set heads (v % 4096) (n + 1) ∙ c.heads-len) c.links-len
      (rw (led, back) (spot_new c.spots n (root (v % 4096)))) (linked_old (root (v % 4096))) (
        v / 4096,
        record {
          live = record { some = rw led (omega arith); within = rw (led, more) (omega arith); mine = rw (led, back, new) refl };
          leads = rw (led, back) here;
        },
      )

  pub grown_link : {at : ℕ} → Ends v heads links seen at → Forest heads (cleared n (set links at (n + 1))) (seen ++ v ∷ [])
  grown_link {at} s =
      let inside : at < length links = omega (arith, s.inside, c.links-len) in
      let kept : (i : ℕ) → 0 < get_or links i 0 → get_or (set links at (n + 1)) i 0 ≡ get_or links i 0 =
      λ i l. get_or-set_other links at i (n + 1) 0 (λ f. omega (arith, ap (λ (x : ℕ). get_or links x 0) f, s.empty)) in
      let led : child (cleared n (set links at (n + 1))) s.from s.rest ≡ n + 1 =
      rw (← s.place) (cleared_old n at (set links at (n + 1)) (omega (arith, s.inside)) ∙ get_or-set_same links at (n + 1) 0 inside) in
      let came = led-kept heads (set links at (n + 1)) (λ q _. refl) kept s.led in
      let spot = below (c.spots (at / 2)) (at % 2) in
      grown heads (set links at (n + 1)) (λ q _. refl) kept spot
      c.heads-len (length-set links at (n + 1) ∙ c.links-len)
      (spot_old c.spots n spot (get_or heads (v % 4096) 0 - 1) (omega (arith, s.led.live.some, s.led.live.within)) ∙ live-root v c s.led.live)
      (λ i l. set-each (Linked spot i) links at i (n + 1) inside (λ f. rw f (linked_new at (omega (arith, s.inside)))) (λ _. linked_old spot i l)) (
        s.rest / 2,
        record {
          live = came.live;
          leads = subst (λ (x : ℕ). Leads (cleared n (set links at (n + 1))) x (s.rest / 2) (get_or heads (v % 4096) 0 - 1) (v / 4096))
              (omega (arith, led)) (leads_last came.leads (omega (arith, led)));
        },
      )
