-- `filter::table::is_below` meets its contract: bytes of one length are ordered as their numbers are. Assumes nothing.
use mathlib.Core.Path.{◌≡◌, sym, ap, ap₂, subst, ◌∙◌}
use mathlib.Core.List.{List}
use Prim.Native.Nat.{ℕ, ◌*◌}
use native.Mathlib.Omega.{arith}
use lib.Dec.{ltb}
use lib.ListN.{length, get_or}
use Rattle.bucket.specs.Digits.{joined, Below}
use Rattle.bucket.proofs.OverLaws.{part_length}
use Rattle.filter.specs.Table.{hashes_of}
use Rattle.filter.proofs.CompareLaws.{part-below, tied_start, tied_next, tied_ends, tied_end}
use Rattle.filter.proofs.TableLaws.{hashes-length, hash-bytes}
use Rattle.filter.proofs.table.is_below.Goals as goal
use Rattle.filter.proofs.table.is_below.Goals.{After-bytes_of-theirs}

module _ (c : After-bytes_of-theirs) where
  abbrev ours : List ℕ
  ours = c.bytes_of-ours.result.now

  abbrev theirs : List ℕ
  theirs = c.bytes_of-theirs.result.now

  ours-long : length ours ≡ 64
  ours-long = ap length c.bytes_of-ours.ensures ∙ part_length (c.args.i * 64) c.args.table.now 64 (omega (arith, hashes-length c.args.table.now, c.requires.0))

  theirs-long : length theirs ≡ 64
  theirs-long = ap length c.bytes_of-theirs.ensures ∙ part_length 0 c.args.hash.now 64 c.requires.1

  ours-below : Below 8 ours
  ours-below = subst (Below 8) (sym c.bytes_of-ours.ensures) (part-below (c.args.i * 64) 64 c.args.table.now (λ n. (c.type_inv.table n).fits))

  theirs-below : Below 8 theirs
  theirs-below = subst (Below 8) (sym c.bytes_of-theirs.ensures) (part-below 0 64 c.args.hash.now (λ n. (c.type_inv.hash n).fits))

  -- the bytes in order are the hashes in order
  whole : ltb (joined 8 ours) (joined 8 theirs) ≡ ltb (get_or (hashes_of c.args.table.now) c.args.i 0) (get_or (hashes_of c.args.hash.now) 0 0)
  whole =
      ap₂ (λ (x y : List ℕ). ltb (joined 8 x) (joined 8 y)) c.bytes_of-ours.ensures c.bytes_of-theirs.ensures
      ∙ ap₂ ltb (sym (hash-bytes c.args.table.now c.args.i (omega (arith, hashes-length c.args.table.now, c.requires.0)))) (sym (hash-bytes c.args.hash.now 0 (omega (arith, c.requires.1))))

pub bytes_of-ours-requires : goal.bytes_of-ours-requires
bytes_of-ours-requires c = omega (arith, hashes-length c.args.table.now)

pub bounds-ours-k : goal.bounds-ours-k
bounds-ours-k c = omega (arith, ours-long (goal.at.bounds-ours-k c).After-bytes_of-theirs)

pub bounds-theirs-k : goal.bounds-theirs-k
bounds-theirs-k c = omega (arith, theirs-long (goal.at.bounds-theirs-k c).After-bytes_of-theirs)

pub bounds-ours-k-then-ours-k : goal.bounds-ours-k-then-ours-k
bounds-ours-k-then-ours-k c = omega (arith, ours-long (goal.at.bounds-ours-k-then-ours-k c).After-bytes_of-theirs)

pub bounds-theirs-k-then-ours-k : goal.bounds-theirs-k-then-ours-k
bounds-theirs-k-then-ours-k c = omega (arith, theirs-long (goal.at.bounds-theirs-k-then-ours-k c).After-bytes_of-theirs)

pub loop-k-init : goal.loop-k-init
loop-k-init c = tied_start _ _

pub returns-then-ours-k : goal.returns-then-ours-k
returns-then-ours-k c = let b = (goal.at.returns-then-ours-k c).After-bytes_of-theirs in
    let at = c.loop-k in
    tied_ends (ours b) (theirs b) (ours-long b ∙ sym (theirs-long b)) at.k at.invariant (ours-below b) (theirs-below b) (omega (arith, ours-long b, c.loop-k-test.true))
    c.if-ours-k.true ∙ whole b

pub loop-k-preserved : goal.loop-k-preserved
loop-k-preserved c = let b = (goal.at.loop-k-preserved c).After-bytes_of-theirs in
    let at = c.loop-k in
    tied_next (ours b) (theirs b) (ours-long b ∙ sym (theirs-long b)) at.k at.invariant (omega (arith, ours-long b, c.loop-k-test.true)) c.if-ours-k.false

pub returns : goal.returns
returns c = let b = (goal.at.returns c).After-bytes_of-theirs in
    let at = c.loop-k in
    tied_end (ours b) (theirs b) (ours-long b ∙ sym (theirs-long b)) at.k at.invariant (omega (arith, ours-long b, c.loop-k-test.false)) ∙ whole b
