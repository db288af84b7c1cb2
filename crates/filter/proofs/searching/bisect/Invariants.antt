-- `filter::searching::bisect` meets its contract. The invariant: whatever test `below` makes, the definition's search from lo to hi ends where the
-- whole search ends. The measure is what lies between them. Assumes nothing.
use mathlib.Core.Path.{◌≡◌}
use mathlib.Core.Bool.{Bool}
use Prim.Native.Nat.{ℕ, ◌-◌, ◌≤◌, ◌<◌}
use Rattle.filter.specs.Lists.{bisect}
use Rattle.filter.proofs.searching.bisect.Given as goal

abbrev pub invariant-loop-lo : goal.invariant-loop-lo
invariant-loop-lo g l = record {
  order : l.lo ≤ l.hi;
  within : l.hi ≤ l.n;
  rest : (p : ℕ → Bool) → ((i : ℕ) (t : Bool) → i < l.n → goal.F-post g l.below i t → t ≡ p i) → bisect p l.n l.lo l.hi ≡ bisect p l.n 0 l.n;
}

abbrev pub decreases-loop-lo : goal.decreases-loop-lo
decreases-loop-lo g l = l.hi - l.lo
