-- Two ends and two queues, first in, first out: in whatever order messages are delivered, it ends the same. Nothing here is of the session.
--
--   Exchange           two ends, and what is under way to each
--   run cs w           deliveries one after the other, each choice of cs saying which end is served
--   Quiet w            nothing is under way
--   Run e n w          n deliveries lead from w to e; Ends e w: some number of them does
--   any_order          if n deliveries lead from w to e, where nothing is under way, any n deliveries or more do
--   Hears a ms a' out  an end a hears messages: it is a' then, and has sent out
--   batch_a, batch_b     all that is under way to one end is delivered, nothing being under way to the other
--
-- Document 02, Req 14: "messages arrive in order, complete and once". By any_order it is enough to follow one schedule, in batches.
-- Assumes nothing.
use mathlib.Core.Path.{◌≡◌, refl, sym, ap, ap₂, ◌∙◌, subst}
use mathlib.Core.Bool.{Bool, true, false}
use mathlib.Core.List.{List, [], ◌∷◌, ◌++◌, append-nil, append_assoc, nil≢cons}
use Prim.Native.Nat.{ℕ, zero, suc, ◌≤◌}
use native.Mathlib.Omega.{arith}
use lib.ListN.{length}

-- two ends and what is under way to each
pub record Exchange (S M : Type 0) : Type 0 where
  pub a : S
  pub b : S
  pub to_a : List M
  pub to_b : List M

-- next: what an end is after a message; says: what it then sends
module _ {S M : Type 0} (next : S → M → S) (says : S → M → List M) where
  -- the first message m of a queue is delivered, q is behind it
  abbrev pub at_a : Exchange S M → M → List M → Exchange S M
  at_a w m q = record { a = next w.a m; b = w.b; to_a = q; to_b = w.to_b ++ says w.a m }

  abbrev pub at_b : Exchange S M → M → List M → Exchange S M
  at_b w m q = record { a = w.a; b = next w.b m; to_a = w.to_a ++ says w.b m; to_b = q }

  -- one delivery: at A if the choice is true and something is under way to A, or nothing to B
  unfoldable pub deliver : Bool → List M → List M → Exchange S M → Exchange S M
  deliver true [] [] w = w
  deliver true [] (m ∷ q) w = at_b w m q
  deliver true (m ∷ q) p w = at_a w m q
  deliver false [] [] w = w
  deliver false (m ∷ q) [] w = at_a w m q
  deliver false p (m ∷ q) w = at_b w m q

  unfoldable pub run : List Bool → Exchange S M → Exchange S M
  run [] w = w
  run (c ∷ cs) w = run cs (deliver c w.to_a w.to_b w)

  abbrev pub Quiet : Exchange S M → Type 0
  Quiet w = (w.to_a ≡ []) × (w.to_b ≡ [])

  -- n deliveries lead from w to e
  pub data Run (e : Exchange S M) : ℕ → Exchange S M → Type 0 where
    stop : {w : Exchange S M} → w ≡ e → Run e zero w
    by_a : {n : ℕ} {w : Exchange S M} (m : M) (q : List M) → w.to_a ≡ m ∷ q → Run e n (at_a w m q) → Run e (suc n) w
    by_b : {n : ℕ} {w : Exchange S M} (m : M) (q : List M) → w.to_b ≡ m ∷ q → Run e n (at_b w m q) → Run e (suc n) w

  -- the same with the ends' names changed
  abbrev mirrored : Exchange S M → Exchange S M
  mirrored w = record { a = w.b; b = w.a; to_a = w.to_b; to_b = w.to_a }

  run-mirrored : {e w : Exchange S M} {n : ℕ} → Run e n w → Run (mirrored e) n (mirrored w)
  run-mirrored (stop p) = stop (ap mirrored p)
  run-mirrored (by_a m q t r) = by_b m q t (run-mirrored r)
  run-mirrored (by_b m q t r) = by_a m q t (run-mirrored r)

  -- a delivery that can be made now is made at some time: it may as well be made at once
  abbrev Rest : Exchange S M → ℕ → Exchange S M → Type 0
  Rest e n w = (k : ℕ) × (n ≡ suc k) × Run e k w

  early-A : (e : Exchange S M) → Quiet e → {n : ℕ} {w : Exchange S M} (m : M) (q : List M) → w.to_a ≡ m ∷ q → Run e n w → Rest e n (at_a w m q)
  early-A e h m q t (stop p) = absurd (nil≢cons (sym h.0 ∙ ap (λ (x : Exchange S M). x.to_a) (sym p) ∙ t))
  early-A e h {w = w} m q t (by_a {n = n} m' q' t' r) =
      let em : m' ≡ m = cc in
      let eq : q' ≡ q = cc in
      (n, refl, subst (λ (x : M). Run e n (at_a w x q)) em (subst (λ (x : List M). Run e n (at_a w m' x)) eq r))
  early-A e h {w = w} m q t (by_b {n = n} m' q' t' r) =
      let (k, ek, r') = early-A e h m (q ++ says w.b m') (ap (λ (l : List M). l ++ says w.b m') t) r in
      (suc k, ap suc ek, by_b m' (q' ++ says w.a m) (ap (λ (l : List M). l ++ says w.a m) t') r')

  early-B : (e : Exchange S M) → Quiet e → {n : ℕ} {w : Exchange S M} (m : M) (q : List M) → w.to_b ≡ m ∷ q → Run e n w → Rest e n (at_b w m q)
  early-B e h m q t r = let (k, p, r') = early-A (mirrored e) (h.1, h.0) m q t (run-mirrored r) in (k, p, run-mirrored r')

  -- one more delivery, whichever is chosen
  delivered : (e : Exchange S M) → Quiet e → (n : ℕ) (w : Exchange S M) → Run e (suc n) w → (c : Bool) → Run e n (deliver c w.to_a w.to_b w)
  unfolding deliver
  delivered e h n w r c = go c w.to_a refl w.to_b refl
    where
      from : {x : Exchange S M} → Rest e (suc n) x → Run e n x
      from {x} (k, p, r') = subst (λ (j : ℕ). Run e j x) (omega arith) r'

      none : w.to_a ≡ [] → w.to_b ≡ [] → (k : ℕ) → Run e k w → k ≡ suc n → Run e n w
      none p q k (stop _) z = absurd (omega arith)
      none p q k (by_a m l t _) z = absurd (nil≢cons (sym p ∙ t))
      none p q k (by_b m l t _) z = absurd (nil≢cons (sym q ∙ t))

      go : (c : Bool) (x : List M) → w.to_a ≡ x → (y : List M) → w.to_b ≡ y → Run e n (deliver c x y w)
      go true [] p [] q = none p q (suc n) r refl
      go true [] p (m ∷ l) q = from (early-B e h m l q r)
      go true (m ∷ l) p y q = from (early-A e h m l p r)
      go false [] p [] q = none p q (suc n) r refl
      go false (m ∷ l) p [] q = from (early-A e h m l p r)
      go false [] p (m ∷ l) q = from (early-B e h m l q r)
      go false (m' ∷ l') p (m ∷ l) q = from (early-B e h m l q r)

  quiet_deliver : (e : Exchange S M) → Quiet e → (c : Bool) → deliver c e.to_a e.to_b e ≡ e
  unfolding deliver
  quiet_deliver e h true = rw (h.0, h.1)
  quiet_deliver e h false = rw (h.0, h.1)

  -- every schedule ends in e after at most n deliveries
  pub any_order : (e : Exchange S M) → Quiet e → (n : ℕ) (w : Exchange S M) → Run e n w → (cs : List Bool) → n ≤ length cs → run cs w ≡ e
  unfolding run
  any_order e h zero w (stop p) [] l = p
  any_order e h (suc n) w r [] l = absurd (omega arith)
  any_order e h zero w (stop p) (c ∷ cs) l =
      any_order e h zero (deliver c w.to_a w.to_b w) (stop (ap (λ (x : Exchange S M). deliver c x.to_a x.to_b x) p ∙ quiet_deliver e h c)) cs
      (omega arith)
  any_order e h (suc n) w r (c ∷ cs) l = any_order e h n (deliver c w.to_a w.to_b w) (delivered e h n w r c) cs (omega arith)

  -- an end and a whole queue
  unfoldable pub feed : S → List M → S
  feed a [] = a
  feed a (m ∷ q) = feed (next a m) q

  unfoldable pub reply : S → List M → List M
  reply a [] = []
  reply a (m ∷ q) = says a m ++ reply (next a m) q

  pub record Hears (a : S) (ms : List M) (a' : S) (out : List M) : Type 0 where
    pub after : feed a ms ≡ a'
    pub said : reply a ms ≡ out

  pub hears_nil : (a : S) → Hears a [] a []
  unfolding feed reply
  hears_nil a = record { after = refl; said = refl }

  pub hears_one : (a : S) (m : M) → Hears a (m ∷ []) (next a m) (says a m)
  unfolding feed reply
  hears_one a m = record { after = refl; said = append-nil (says a m) }

  pub hears_then : {a a' a'' : S} {ms ns out out' : List M} → Hears a ms a' out → Hears a' ns a'' out' → Hears a (ms ++ ns) a'' (out ++ out')
  unfolding feed reply
  hears_then {a} {a'} {a''} {ms = []} {ns} {out} {out'} h k =
      record {
        after = ap (λ (x : S). feed x ns) h.after ∙ k.after;
        said = ap₂ ◌++◌ h.said (ap (λ (x : S). reply x ns) h.after ∙ k.said);
      }
  hears_then {a} {a'} {a''} {ms = m ∷ ms} {ns} {out} {out'} h k =
      let g : Hears (next a m) ms a' (reply (next a m) ms) = record { after = h.after; said = refl } in
      let ih = hears_then {a = next a m} {ms = ms} g k in
      record {
        after = ih.after;
        said =
            ap (λ (l : List M). says a m ++ l) ih.said ∙ sym (append_assoc (says a m) (reply (next a m) ms) out') ∙ ap (λ (l : List M). l ++ out') h.said;
      }

  abbrev pub Ends : Exchange S M → Exchange S M → Type 0
  Ends e w = (n : ℕ) × Run e n w

  batch : (e : Exchange S M) (ms : List M) (a b : S) (p : List M)
      → Ends e (record { a = feed a ms; b = b; to_a = []; to_b = p ++ reply a ms }) → Ends e (record { a = a; b = b; to_a = ms; to_b = p })
  unfolding feed reply
  batch e [] a b p (n, r) = (n, rw append-nil at r)
  batch e (m ∷ ms) a b p (n, r) =
      let (k, r') = batch e ms (next a m) b (p ++ says a m) (n, rw (← append_assoc p (says a m) (reply (next a m) ms)) at r) in
      (suc k, by_a m ms refl r')

  pub batch_a : {e : Exchange S M} {ms out : List M} {a a' b : S} → Hears a ms a' out
      → Ends e (record { a = a'; b = b; to_a = []; to_b = out }) → Ends e (record { a = a; b = b; to_a = ms; to_b = [] })
  batch_a {e} {ms} {out} {a} {a'} {b} h r = batch e ms a b [] (rw (h.after, h.said) r)

  pub batch_b : {e : Exchange S M} {ms out : List M} {a b b' : S} → Hears b ms b' out
      → Ends e (record { a = a; b = b'; to_a = out; to_b = [] }) → Ends e (record { a = a; b = b; to_a = []; to_b = ms })
  batch_b h (n, r) = let (k, r') = batch_a h (n, run-mirrored r) in (k, run-mirrored r')
