-- `bucket::purity::is_place` meets its contract: there are as many places as `places` gives but for the zeros behind them, and draw 0 leads to one.
-- Assumes nothing.
use mathlib.Core.Path.{sym, ap, ◌∙◌}
use Prim.Native.Nat.{ℕ, min}
use native.Mathlib.Omega.{arith}
use lib.Dec.{eqb}
use borrow.Author.Rules.{rules}
use borrow.Author.Tests.{eq-eqb, le-ltb, tests}
use Rattle.std.proofs.lemmas.Iterator.{YieldsList-from_slice}
use Rattle.std.proofs.lemmas.Iterator.Search.{any_from_yields_List}
use lib.ListN.{take}
use Rattle.bucket.specs.Crc.{next_by}
use Rattle.bucket.specs.Lists.{elem}
use Rattle.bucket.specs.Places.{places_by}
use Rattle.bucket.proofs.ListLaws.{any-elem, elem-nil}
use Rattle.bucket.proofs.PlaceLaws.{places-back, first-placed}
use Rattle.bucket.proofs.purity.is_place.Goals as goal

pub returns-then-d-size : goal.returns-then-d-size
returns-then-d-size c = let args = c.args in
    eq-eqb _ _ c.if-d-size.true
    ∙ sym
    (ap (λ (b : ℕ). elem b (places_by (next_by args.tab.now) (min 4 args.k) args.size args.d)) (sym c.if-d-size.true)
    ∙ first-placed (next_by args.tab.now) (min 4 args.k) args.size args.d (omega arith) (omega arith))

pub returns-else-d-size : goal.returns-else-d-size
returns-else-d-size c = let args = c.args in
    let n = c.min-n.result in
    any_from_yields_List (λ b. eqb b args.i) _ _ _ c.any.ensures.ran (YieldsList-from_slice (take n c.places.result) cc) (λ x b q k. search (rules, tests))
    ∙ any-elem args.i _
    ∙ ap (elem args.i) (ap (take n) c.places.ensures ∙ places-back (next_by args.tab.now) (min 4 args.k) args.size args.d 4 n (omega arith))

pub returns-else-n-gt0 : goal.returns-else-n-gt0
returns-else-n-gt0 c = let args = c.args in
    le-ltb _ _ c.if-n-gt0.false
    ∙ sym (elem-nil args.i)
    ∙ ap (elem args.i) (places-back (next_by args.tab.now) (min 4 args.k) args.size args.d 4 0 (omega arith))
