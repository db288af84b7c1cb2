-- The walk along the ways of the code. Where fewer bytes are left than MSG SIZE says, the part that the definition reads is shorter than its own MSG SIZE: it is no message.
-- Assumes nothing.
use mathlib.Core.Path.{◌≡◌, refl, sym, ap, ◌∙◌}
use mathlib.Core.Bool.{Bool, true, false}
use mathlib.Core.List.{List}
use Prim.Native.Nat.{ℕ, ◌+◌, ◌-◌, ◌≤◌, ◌<◌}
use native.Mathlib.Nat.{add-zero}
use native.Mathlib.Omega.{arith}
use borrow.Author.Tests.{le-leb, lt-leb, leb-true, leb-false}
use lib.Dec.{leb}
use lib.ListN.{length, drop, length-take, length-drop}
use Rattle.std.proofs.Common.{Option, None}
use Rattle.bucket.specs.Digits.{joined}
use Rattle.bucket.specs.Lists.{part}
use Rattle.bucket.proofs.OverLaws.{part-part}
use Rattle.message.specs.declared.kinds.Message.{Message}
use Rattle.message.specs.Reading.{field, parse}
use Rattle.message.specs.Walking.{broken, step_of, walk_at}
use Rattle.message.proofs.ReadLaws.{short, other_size}

module _ (s : List ℕ) (at : ℕ) where
  pub part-cut_malformed : length s - at < field 2 at s → parse (part at (field 2 at s) s) ≡ None
  part-cut_malformed h = go (leb 4 (length cut)) refl
    where
      cut : List ℕ
      cut = part at (field 2 at s) s

      less : length cut < field 2 at s
      less = omega (arith, length-take (field 2 at s) (drop at s), length-drop at s)

      go : (t : Bool) → leb 4 (length cut) ≡ t → parse cut ≡ None
      go false e = sym (short cut (leb-false 4 (length cut) e))
      go true e =
          let four = leb-true 4 (length cut) e in
          let same : field 2 0 cut ≡ field 2 at s = ap (joined 8) (part-part s at (field 2 at s) 0 2 (omega (arith, less))) ∙ ap (λ (n : ℕ). field 2 n s) (add-zero at) in
          sym (other_size cut (λ z. omega (arith, less)) four)

  pub walk_end : length s ≤ at → None ≡ walk_at s at
  unfolding walk_at
  walk_end h = rw (le-leb (length s) at h)

  pub walk_on_lem : at < length s → step_of (parse (part at (field 2 at s) s)) at (at + field 2 at s) ≡ walk_at s at
  unfolding walk_at
  walk_on_lem h = rw (lt-leb (length s) at h)

  pub walk_broken : at < length s → length s - at < field 2 at s → broken at ≡ walk_at s at
  walk_broken h l = ap (λ (m : Option Message). step_of m at (at + field 2 at s)) (sym (part-cut_malformed l)) ∙ walk_on_lem h
