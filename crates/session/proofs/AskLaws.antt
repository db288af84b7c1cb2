-- The items of a message one after the other, and the walks of an INQUIRY and of a DEMAND as they go. Assumes nothing.
use mathlib.Core.Path.{◌≡◌, refl, sym, ap, ap₂, ◌∙◌}
use mathlib.Core.Bool.{Bool, true, false, not, ◌&&◌, ◌||◌, cond, true≢false}
use mathlib.Core.List.{List, [], ◌∷◌, ◌++◌}
use Prim.Native.Nat.{ℕ, ◌+◌, ◌*◌, ◌/◌, ◌%◌, ◌≤◌, ◌<◌}
use native.Mathlib.Omega.{arith}
use lib.Dec.{ltb, leb}
use lib.ListN.{length, get_or, set, length-append, length-set}
use borrow.Author.Tests.{eqb-false, leb-false, lt-ltb, le-ltb}
use Rattle.bucket.specs.Digits.{groups, packed}
use Rattle.bucket.specs.Lists.{over}
use Rattle.bucket.proofs.DigitLaws.{groups-length}
use Rattle.bucket.proofs.OverLaws.{over-nil, over-length, then_over}
use Rattle.bucket.proofs.TestLaws.{and_fails, and_holds}
use Rattle.filter.specs.Table.{first_eight, hashes_of, ids_of}
use Rattle.message.proofs.WholeLaws.{packed-nil, packed_snoc, whole_length}
use Rattle.ledger.specs.Memory.{is_asked, is_offered, is_served}
use Rattle.session.specs.Moves.{place_of, is_held_at, hash_at_place, go_all, Walk, walk, is_fine, ask_at, ask_one, ask_all, place_of_hash, serve_at, serve_one, serve_all}
use Rattle.session.specs.Ready.{Walked}
use Rattle.std.specs.Prelude.{Ok}

-- ---- items, one after the other

-- a walk that has the items ys left
pub record Going {A : Type 0} (fine : A → Bool) (f : ℕ → A → A) (xs : List ℕ) (w₀ : A) (ys : List ℕ) (w : A) : Type 0 where
  pub rest : go_all fine f ys w ≡ go_all fine f xs w₀

pub going_start : {A : Type 0} (fine : A → Bool) (f : ℕ → A → A) (xs : List ℕ) (w : A) → Going fine f xs w xs w
going_start fine f xs w = record { rest = refl }

module _ {A : Type 0} {fine : A → Bool} {f : ℕ → A → A} {xs ys : List ℕ} {w₀ w : A} (s : Going fine f xs w₀ ys w) where
  pub going_end : ys ≡ [] → w ≡ go_all fine f xs w₀
  unfolding go_all
  going_end none = ap (λ (l : List ℕ). go_all fine f l w) (sym none) ∙ s.rest

  module _ {x : ℕ} {zs : List ℕ} {v : A} (item : ys ≡ x ∷ zs) (acted : v ≡ f x w) where
    turn : cond (fine v) (go_all fine f zs v) v ≡ go_all fine f xs w₀
    unfolding go_all
    turn = ap (λ (u : A). cond (fine u) (go_all fine f zs u) u) acted ∙ ap (λ (l : List ℕ). go_all fine f l w) (sym item) ∙ s.rest

    pub going_next : fine v ≡ true → Going fine f xs w₀ zs v
    going_next e = record { rest = sym (ap (λ (t : Bool). cond t (go_all fine f zs v) v) e) ∙ turn }

    pub going-stops : fine v ≡ false → v ≡ go_all fine f xs w₀
    going-stops e = sym (ap (λ (t : Bool). cond t (go_all fine f zs v) v) e) ∙ turn

-- ---- hashes gathered in order

pub record Gathering (gathered hashes₀ hashes : List ℕ) (m : ℕ) : Type 0 where
  pub count : m ≡ length gathered
  pub same : length hashes ≡ length hashes₀
  pub bytes : hashes ≡ over 0 (packed 512 gathered) hashes₀

pub gathering-start : (hashes : List ℕ) → Gathering [] hashes hashes 0
gathering-start hashes = record {
  count = refl;
  same = refl;
  bytes = sym (ap (λ (l : List ℕ). over 0 l hashes) (packed-nil 64) ∙ over-nil 0 hashes);
}

pub gathering-next : {gathered hashes₀ hashes : List ℕ} {m : ℕ} {hashes' : List ℕ} (h : ℕ) → Gathering gathered hashes₀ hashes m → 64 * m + 64 ≤ length hashes₀
    → hashes' ≡ over (64 * m) (groups 8 64 h) hashes → Gathering (gathered ++ h ∷ []) hashes₀ hashes' (m + 1)
gathering-next {gathered} {hashes₀} {hashes} {m} h s room e =
    record {
      count = omega (arith, s.count, length-append gathered (h ∷ []));
      same = ap length e ∙ over-length (64 * m) hashes (groups 8 64 h) (omega (arith, s.same, groups-length 8 64 h)) ∙ s.same;
      bytes =
          then_over 0 hashes₀ (packed 512 gathered) (groups 8 64 h) s.bytes e
          (omega (arith, whole_length 64 gathered, s.count)) (omega (arith, groups-length 8 64 h))
          ∙ ap (λ (l : List ℕ). over 0 l hashes₀) (sym (packed_snoc 64 gathered h));
    }

-- ---- an INQUIRY

-- one more can be gathered
pub asked-few : (a : Bool) (m : ℕ) → a || leb 4096 m ≡ false → m < 4096
asked-few true m e = absurd (true≢false e)
asked-few false m e = leb-false 4096 m e

pub record Asking (table known marks₀ hashes₀ ids marks hashes : List ℕ) (m : ℕ) (left : List ℕ) : Type 0 where
  pub gathered : List ℕ
  pub going : Going is_fine (ask_one first_eight (hashes_of table) (hashes_of known)) ids (walk true marks₀ []) left (walk true marks gathered)
  pub gathering : Gathering gathered hashes₀ hashes m
  pub few : m ≤ 4096
  pub same : length marks ≡ length marks₀

pub asking-start : (table known marks hashes ids : List ℕ) → Asking table known marks hashes ids marks hashes 0 ids
asking-start table known marks hashes ids = record {
  gathered = [];
  going = going_start is_fine (ask_one first_eight (hashes_of table) (hashes_of known)) ids (walk true marks []);
  gathering = gathering-start hashes;
  few = omega arith;
  same = refl;
}

module _ {table known marks₀ hashes₀ ids marks hashes : List ℕ} {m : ℕ} {left : List ℕ} (s : Asking table known marks₀ hashes₀ ids marks hashes m left) where
  pub asking-end : left ≡ [] → Walked (ask_all first_eight (hashes_of table) (hashes_of known) ids marks₀) (Ok m) marks hashes hashes₀
  asking-end none =
      let all = going_end s.going none in (
        record {
          good = sym (ap (λ (w : Walk). w.fine) all);
          count = s.gathering.count ∙ ap (λ (w : Walk). length w.hashes) all;
          bytes-are = s.gathering.bytes ∙ ap (λ (w : Walk). over 0 (packed 512 w.hashes) hashes₀) all;
        },
        ap (λ (w : Walk). w.marks) all,
      )

  module _ {x p : ℕ} {rest : List ℕ} (item : left ≡ x ∷ rest) (is : p ≡ place_of (ids_of first_eight table) (ids_of first_eight known) x) where
    acted : {a b : Bool} → is_held_at marks p ≡ a → is_asked (get_or marks p 0) || leb 4096 m ≡ b
        → cond a (cond b (walk false marks s.gathered) (walk true (set marks p (get_or marks p 0 / 4 * 4 + 3)) (s.gathered ++ hash_at_place (hashes_of table) (hashes_of known) p ∷ []))) (walk true marks s.gathered)
        ≡ ask_one first_eight (hashes_of table) (hashes_of known) x (walk true marks s.gathered)
    unfolding ask_one ask_at ids_of
    acted e f =
        ap₂ (λ (a b : Bool). cond a (cond b (walk false marks s.gathered) (walk true (set marks p (get_or marks p 0 / 4 * 4 + 3)) (s.gathered ++ hash_at_place (hashes_of table) (hashes_of known) p ∷ []))) (walk true marks s.gathered))
        (sym e) (sym f ∙ ap (λ (n : ℕ). is_asked (get_or marks p 0) || leb 4096 n) s.gathering.count)
        ∙ ap (λ (q : ℕ). ask_at first_eight (hashes_of table) (hashes_of known) q (walk true marks s.gathered)) is

    -- not held
    pub asking_passes : is_held_at marks p ≡ false → Asking table known marks₀ hashes₀ ids marks hashes m rest
    asking_passes e = record {
      gathered = s.gathered;
      going = going_next s.going item (acted e refl) refl;
      gathering = s.gathering;
      few = s.few;
      same = s.same;
    }

    pub asking-stops : is_held_at marks p ≡ true → is_asked (get_or marks p 0) || leb 4096 m ≡ true
        → (ask_all first_eight (hashes_of table) (hashes_of known) ids marks₀).fine ≡ false
    asking-stops e f = sym (ap (λ (w : Walk). w.fine) (going-stops s.going item (acted e f) refl))

    pub asking-next : {hashes' : List ℕ} → is_held_at marks p ≡ true → is_asked (get_or marks p 0) || leb 4096 m ≡ false → 262144 ≤ length hashes₀
        → hashes' ≡ over (64 * m) (groups 8 64 (hash_at_place (hashes_of table) (hashes_of known) p)) hashes
        → Asking table known marks₀ hashes₀ ids (set marks p (get_or marks p 0 / 4 * 4 + 3)) hashes' (m + 1) rest
    asking-next e f room put =
        let more : m < 4096 = asked-few (is_asked (get_or marks p 0)) m f in
        record {
          gathered = s.gathered ++ hash_at_place (hashes_of table) (hashes_of known) p ∷ [];
          going = going_next s.going item (acted e f) refl;
          gathering = gathering-next (hash_at_place (hashes_of table) (hashes_of known) p) s.gathering (omega arith) put;
          few = omega arith;
          same = length-set marks p (get_or marks p 0 / 4 * 4 + 3) ∙ s.same;
        }

-- ---- a DEMAND

pub record Serving (table known marks₀ hs marks left : List ℕ) : Type 0 where
  pub going : Going is_fine (serve_one first_eight (hashes_of table) (hashes_of known)) hs (walk true marks₀ []) left (walk true marks [])
  pub same : length marks ≡ length marks₀

pub serving-start : (table known marks hs : List ℕ) → Serving table known marks hs marks hs
serving-start table known marks hs = record {
  going = going_start is_fine (serve_one first_eight (hashes_of table) (hashes_of known)) hs (walk true marks []);
  same = refl;
}

-- what makes a demand good
abbrev servable : List ℕ → ℕ → Bool
servable marks p = ltb p 8192 && (is_offered (get_or marks p 0) && not (is_served (get_or marks p 0)))

module _ {table known marks₀ hs marks left : List ℕ} (s : Serving table known marks₀ hs marks left) where
  abbrev all_served : Walk
  all_served = serve_all first_eight (hashes_of table) (hashes_of known) hs marks₀

  pub serving-end : left ≡ [] → (all_served.fine ≡ true) × (marks ≡ all_served.marks)
  serving-end none =
      let all = going_end s.going none in
      (sym (ap (λ (w : Walk). w.fine) all), ap (λ (w : Walk). w.marks) all)

  module _ {x p : ℕ} {rest : List ℕ} (item : left ≡ x ∷ rest) (is : p ≡ place_of_hash first_eight (hashes_of table) (hashes_of known) x) where
    served : {t : Bool} → servable marks p ≡ t
        → cond t (walk true (set marks p (get_or marks p 0 + 4)) []) (walk false marks []) ≡ serve_one first_eight (hashes_of table) (hashes_of known) x (walk true marks [])
    unfolding serve_one serve_at
    served e =
        ap (λ (t : Bool). cond t (walk true (set marks p (get_or marks p 0 + 4)) []) (walk false marks [])) (sym e)
        ∙ ap (λ (q : ℕ). serve_at first_eight (hashes_of table) (hashes_of known) q (walk true marks [])) is

    serving-stops : servable marks p ≡ false → all_served.fine ≡ false
    serving-stops e = sym (ap (λ (w : Walk). w.fine) (going-stops s.going item (served e) refl))

    pub serving-nowhere : p ≡ 8192 → all_served.fine ≡ false
    serving-nowhere e =
        serving-stops (ap (λ (t : Bool). t && (is_offered (get_or marks p 0) && not (is_served (get_or marks p 0)))) (le-ltb p 8192 (omega arith)))

    pub serving_unfit : is_offered (get_or marks p 0) && not (is_served (get_or marks p 0)) ≡ false → all_served.fine ≡ false
    serving_unfit e = serving-stops (and_fails (ltb p 8192) e)

    pub serving-next : p < 8192 → is_offered (get_or marks p 0) && not (is_served (get_or marks p 0)) ≡ true
        → Serving table known marks₀ hs (set marks p (get_or marks p 0 + 4)) rest
    serving-next l e = record {
      going = going_next s.going item (served (and_holds (lt-ltb p 8192 l) e)) refl;
      same = length-set marks p (get_or marks p 0 + 4) ∙ s.same;
    }

-- a mark that is not served has room for the bit
pub unserved_room : (m : ℕ) → m < 256 → is_served m ≡ false → m + 4 < 256
unfolding is_served
unserved_room m h e = omega (arith, eqb-false (m / 4 % 2) 1 e)
