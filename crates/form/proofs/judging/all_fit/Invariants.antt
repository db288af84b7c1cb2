-- `judging::all_fit` meets its contract: what was found so far and the marks from the index on decide. Assumes nothing.
use mathlib.Core.Path.{◌≡◌}
use mathlib.Core.Bool.{Bool, ◌&&◌}
use Prim.Native.Nat.{ℕ}
use lib.ListN.{drop}
use Rattle.filter.specs.Sets.{all}
use Rattle.form.proofs.judging.all_fit.Given as goal

abbrev pub invariant-loop-m : goal.invariant-loop-m
invariant-loop-m g l = (p : ℕ → Bool) → ((m : ℕ) (b : Bool) → goal.F-post g l.fits m b → b ≡ p m)
    → l.fit && all p (drop l.m-index l.marks) ≡ all p l.marks
