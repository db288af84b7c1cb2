use mathlib.Core.Path.{refl, sym, ◌∙◌}
use Prim.Native.Nat.{ℕ}
use native.Mathlib.Omega.{arith}
use lib.ListN.{take, drop_of_length-le}
use lib.Dec.{eqb}
use borrow.Author.Rules.{rules}
use borrow.Author.Tests.{tests}
use Rattle.std.proofs.lemmas.Iterator.{YieldsList-from_slice}
use Rattle.std.proofs.lemmas.Iterator.Search.{any_from_yields_List}
use Rattle.bucket.proofs.ListLaws.{any-elem}
use Rattle.bucket.proofs.TableLaws.{tabulated-length, tabulated-rest, numbers}
use Rattle.bucket.proofs.SearchLaws.{search_full, search_spent, search_skip, search-take}
use Rattle.bucket.proofs.places.fill.Goals as goal
use Rattle.bucket.proofs.places.fill.Goals.{then-not-any, else-not-any}

pub loop-c-init : goal.loop-c-init
loop-c-init c = let pre = c.requires in record { room = refl; fits = pre.1; few = pre.0; padded = pre.2; rest = refl }

pub shape_of-taken-then-n-k : goal.shape_of-taken-then-n-k
shape_of-taken-then-n-k c = c.loop-c.invariant.room

pub returns-then-n-k : goal.returns-then-n-k
returns-then-n-k c = search_full c.loop-c.invariant c.if-n-k.true

pub loop-c-preserved : goal.loop-c-preserved
loop-c-preserved c = let at = c.loop-c in
    let args = c.args in
    let left = tabulated-rest (λ (b : ℕ). b) args.size at.c-counter (omega arith) in
    let asked = any_from_yields_List (λ b. eqb b at.c-counter) _ _ c.any.result c.any.ensures.ran (YieldsList-from_slice (take at.n at.taken) cc) (λ x b q k. search (rules, tests)) ∙ any-elem _ _ in
    elim c.if-not-any.branch [
      | then-not-any w ↦ rw (w.taken-is, w.n-is) (search-take at.invariant left (sym asked ∙ w.if-not-any.true) (omega arith))
      | else-not-any w ↦ rw (w.taken-is, w.n-is) (search_skip at.invariant left (sym asked ∙ w.if-not-any.false))
    ]

pub shape_of-taken : goal.shape_of-taken
shape_of-taken c = c.loop-c.invariant.room

pub returns : goal.returns
returns c = let size = c.args.size in
    search_spent c.loop-c.invariant
    (drop_of_length-le (numbers size) {i = c.loop-c.c-counter} (omega (arith, tabulated-length (λ (b : ℕ). b) 0 size)))
