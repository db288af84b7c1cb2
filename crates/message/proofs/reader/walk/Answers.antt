use Rattle.std.proofs.Common.{◌≡◌, ◌-◌, ℕ, true, sym, ap, ap₂, ◌∙◌, length, arith, List}
use Rattle.message.specs.declared.reader.Taken.{Taken}
use Rattle.message.specs.Walking.{Walked, walk_at, behind, is_found, ended, reader_at, next_of}
use Rattle.message.proofs.ThroughLaws.{Onward, onward, over, whole-start}
use Rattle.message.proofs.reader.walk.Goals as goal
use Rattle.message.proofs.reader.walk.Goals.{After-is_found}

-- what the test said of the position
found : (c : After-is_found) → c.is_found.result ≡ true → let (at, k) = c.loop-count.invariant in Onward c.args.s.now at c.loop-count.count
found c t =
    let (at, k) = c.loop-count.invariant in
    onward c.args.s.now at c.loop-count.count k.3 (ap is_found (sym k.0) ∙ sym c.is_found.ensures ∙ t)

pub loop-count-init : goal.loop-count-init
loop-count-init c =
    let e : c.next-taken.result ≡ next_of (reader_at c.args.s 0) = c.next-taken.ensures ∙ ap next_of c.new.ensures in
    (0, (ap (λ (t : Taken). t.walked) e, ap (λ (t : Taken). t.rest.src.now) e, ap (λ (t : Taken). t.rest.at) e, omega arith, whole-start c.args.s.now))

pub overflow_add-count : goal.overflow_add-count
overflow_add-count c = let o = found (goal.at.overflow_add-count c).After-is_found c.loop-count-test.true in omega (arith, o.inside)

pub loop-count-smaller : goal.loop-count-smaller
loop-count-smaller c = let o = found (goal.at.loop-count-smaller c).After-is_found c.loop-count-test.true in omega (arith, o.inside)

pub loop-count-preserved : goal.loop-count-preserved
loop-count-preserved c =
    let (at, k) = c.loop-count.invariant in
    let o = found (goal.at.loop-count-preserved c).After-is_found c.loop-count-test.true in
    let e = c.next-taken-in-loop-count.ensures in (
      behind (walk_at c.args.s.now at) at,
      (
        ap (λ (t : Taken). t.walked) e ∙ ap₂ walk_at k.1 k.2,
        ap (λ (t : Taken). t.rest.src.now) e ∙ k.1,
        ap (λ (t : Taken). t.rest.at) e ∙ ap₂ (λ (s : List ℕ) (a : ℕ). behind (walk_at s a) a) k.1 k.2,
        o.fewer,
        sym o.same ∙ k.4,
      ),
    )

pub returns : goal.returns
returns c =
    let (at, k) = c.loop-count.invariant in
    let n = c.loop-count.count in
    c.ended.ensures ∙ ap (λ (w : Walked). ended w n) k.0
    ∙ over c.args.s.now (length c.args.s.now - n) (walk_at c.args.s.now at) n (ap is_found (sym k.0) ∙ sym c.is_found.ensures ∙ c.loop-count-test.false)
    ∙ k.4
