-- What a walk over a message's items keeps: an INQUIRY's the number of marks, at most 4,096 hashes and each of 64 bytes; an OFFER's that each
-- new hash has 64 bytes. Assumes nothing.
use mathlib.Core.Path.{◌≡◌, refl, subst, sym, ◌∙◌}
use mathlib.Core.Logic.{◌⊎◌, inl, inr}
use mathlib.Core.Bool.{Bool, true, false, not, ◌&&◌, ◌||◌, cond}
use mathlib.Core.List.{List, [], ◌∷◌, ◌++◌, map}
use Prim.Native.Nat.{ℕ, ◌+◌, ◌*◌, ◌/◌, ◌^◌, ◌≤◌, ◌<◌}
use native.Mathlib.Omega.{arith}
use lib.Dec.{eqb, ltb, leb}
use lib.ListN.{length, get_or, set, length-set, length-append}
use Rattle.bucket.specs.Lists.{elem}
use Rattle.bucket.proofs.ListLaws.{elem-head, elem_tail}
use Rattle.filter.specs.Table.{first_eight, hashes_of, holds}
use Rattle.ledger.specs.Memory.{is_asked}
use Rattle.ledger.proofs.BelowLaws.{Fit}
use Rattle.session.specs.Moves.{place_of, is_held_at, hash_at_place, go_all, Walk, walk, is_fine, ask_at, ask_one, ask_all, News, news_of, is_good, new_one, new_all}
use Rattle.filter.proofs.SetLaws.{◌∈◌, not_in_nil, in_cons, append_in}
use Rattle.session.proofs.AskLaws.{asked-few}
use Rattle.session.proofs.PlaceLaws.{place-short}

-- what each item keeps, all do
pub go_keeps : {A : Type 0} (fine : A → Bool) (f : ℕ → A → A) (P : A → Type 0) (xs : List ℕ) → ((x : ℕ) → x ∈ xs → (w : A) → P w → P (f x w)) → (w : A) → P w
    → P (go_all fine f xs w)
unfolding go_all
go_keeps fine f P [] step w s = s
go_keeps fine f P (x ∷ xs) step w s = go (fine (f x w)) (go_keeps fine f P xs (λ y e. step y (elem_tail y x xs e)) (f x w) next)
  where
    next : P (f x w)
    next = step x (elem-head x xs) w s

    go : (b : Bool) → P (go_all fine f xs (f x w)) → P (cond b (go_all fine f xs (f x w)) (f x w))
    go true all = all
    go false all = next

-- one more hash of 64 bytes
pub hashes-more : (hs : List ℕ) (h : ℕ) → Fit 512 hs → h < 2 ^ 512 → Fit 512 (hs ++ h ∷ [])
hashes-more hs h short less x e = go (append_in x hs (h ∷ []) e)
  where
    last : (x ≡ h) ⊎ (x ∈ []) → x < 2 ^ 512
    last (inl q) = subst (λ (y : ℕ). y < 2 ^ 512) (sym q) less
    last (inr q) = absurd (not_in_nil x q)

    go : (x ∈ hs) ⊎ (x ∈ h ∷ []) → x < 2 ^ 512
    go (inl q) = short x q
    go (inr q) = last (in_cons x h [] q)

-- ---- INQUIRY

pub record Asked (n : ℕ) (w : Walk) : Type 0 where
  pub same : length w.marks ≡ n
  pub few : length w.hashes ≤ 4096
  pub short : Fit 512 w.hashes

module _ (table known : List ℕ) where
  ask_keeps : (n x : ℕ) (w : Walk) → Asked n w → Asked n (ask_one first_eight (hashes_of table) (hashes_of known) x w)
  unfolding ask_one ask_at
  ask_keeps n x w s = go (is_held_at w.marks p) (is_asked (get_or w.marks p 0) || leb 4096 (length w.hashes)) refl
    where
      p : ℕ
      p = place_of (map first_eight (hashes_of table)) (map first_eight (hashes_of known)) x

      h : ℕ
      h = hash_at_place (hashes_of table) (hashes_of known) p

      go : (a b : Bool) → is_asked (get_or w.marks p 0) || leb 4096 (length w.hashes) ≡ b
          → Asked n (cond a (cond b (walk false w.marks w.hashes) (walk true (set w.marks p (get_or w.marks p 0 / 4 * 4 + 3)) (w.hashes ++ h ∷ []))) w)
      go false b e = s
      go true true e = record { same = s.same; few = s.few; short = s.short }
      go true false e =
          let more : length w.hashes < 4096 = asked-few (is_asked (get_or w.marks p 0)) (length w.hashes) e in
          record {
            same = length-set w.marks p (get_or w.marks p 0 / 4 * 4 + 3) ∙ s.same;
            few = omega (arith, length-append w.hashes (h ∷ []));
            short = hashes-more w.hashes h s.short (place-short table known p);
          }

  pub asked-all : (xs M : List ℕ) → Asked (length M) (ask_all first_eight (hashes_of table) (hashes_of known) xs M)
  asked-all xs M =
      go_keeps is_fine (ask_one first_eight (hashes_of table) (hashes_of known)) (Asked (length M)) xs (λ x e w s. ask_keeps (length M) x w s) (walk true M [])
      record { same = refl; few = omega arith; short = λ h e. absurd (not_in_nil h e) }

-- ---- OFFER

new_keeps : (t K I : List ℕ) (active : Bool) (h : ℕ) → h < 2 ^ 512 → (w : News) → Fit 512 w.hashes → Fit 512 (new_one first_eight t K I active h w).hashes
unfolding new_one
new_keeps t K I active h less w s =
    go (ltb p 8192) (eqb (hash_at_place t K p) h) (elem (first_eight h) (map first_eight w.hashes)) (elem h w.hashes) (active && not (holds I (first_eight h)))
  where
    p : ℕ
    p = place_of (map first_eight t) (map first_eight K) (first_eight h)

    bad : News
    bad = news_of false w.hashes

    go : (a b c d e : Bool) → Fit 512 (cond a (cond b w bad) (cond c (cond d w bad) (cond e bad (news_of true (w.hashes ++ h ∷ []))))).hashes
    go true true c d e = s
    go true false c d e = s
    go false b true true e = s
    go false b true false e = s
    go false b false d true = s
    go false b false d false = hashes-more w.hashes h s less

pub new-short : (t K I : List ℕ) (active : Bool) (hs : List ℕ) → Fit 512 hs → Fit 512 (new_all first_eight t K I active hs).hashes
new-short t K I active hs short =
    go_keeps is_good (new_one first_eight t K I active) (λ w. Fit 512 w.hashes) hs (λ h e w s. new_keeps t K I active h (short h e) w s) (news_of true []) (λ h e. absurd (not_in_nil h e))
