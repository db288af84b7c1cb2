-- DEMAND: what each way through its function leaves is its turn. Assumes nothing.
use mathlib.Core.Path.{◌≡◌, sym, ap, ◌∙◌}
use mathlib.Core.Bool.{Bool, true, false, cond}
use mathlib.Core.List.{List}
use Prim.Native.Nat.{ℕ, ◌+◌, ◌*◌, ◌≤◌}
use lib.ListN.{length, take}
use Rattle.bucket.specs.Digits.{Below, packed, unpacked}
use Rattle.bucket.specs.Lists.{over, part}
use Rattle.bucket.proofs.OverLaws.{part_length}
use Rattle.filter.specs.Table.{first_eight}
use Rattle.message.proofs.WholeLaws.{part-below, whole_back}
use Rattle.ledger.specs.declared.numbers.Numbers.{Numbers}
use Rattle.ledger.specs.declared.numbers.Answer.{Answer}
use Rattle.session.specs.Moves.{Walk, serve_all}
use Rattle.form.specs.Answers.{aborted, changed}
use Rattle.session.specs.Turns.{MarkTurn, mark_turn, demand_turn}

module _ (N : Numbers) (t K hs M out : List ℕ) where
  abbrev answer : ℕ → Answer
  answer due = changed N N.state N.done N.demanded 0 due

  abbrev taken : MarkTurn
  taken = mark_turn (answer (length hs)) (over 0 (serve_all first_eight t K hs (take 8192 M)).marks M) (over 0 (packed 512 hs) out)

  demand_decided : {b : Bool} → (serve_all first_eight t K hs (take 8192 M)).fine ≡ b → cond b taken (mark_turn (aborted 7 N) M out) ≡ demand_turn N t K hs M out
  unfolding demand_turn
  demand_decided e = ap (λ (b : Bool). cond b taken (mark_turn (aborted 7 N) M out)) (sym e)

  module _ {work : List ℕ} (copied : work ≡ take 8192 M) where
    abbrev walk : Walk
    walk = serve_all first_eight t K hs work

    same-walk : walk ≡ serve_all first_eight t K hs (take 8192 M)
    same-walk = ap (serve_all first_eight t K hs) copied

    pub demand_bad : walk.fine ≡ false → mark_turn (aborted 7 N) M out ≡ demand_turn N t K hs M out
    demand_bad e = demand_decided (sym (ap (λ (w : Walk). w.fine) same-walk) ∙ e)

    pub demand-taken : {work' : List ℕ} {r : Answer} {M' out' : List ℕ} → (walk.fine ≡ true) × (work' ≡ walk.marks)
        → r ≡ answer (length hs) → M' ≡ over 0 work' M → out' ≡ over 0 (packed 512 hs) out
        → mark_turn r M' out' ≡ demand_turn N t K hs M out
    demand-taken {work'} {r} {M'} (fine, marks) is back sent =
        (λ i. mark_turn (is i) (marked i) (sent i)) ∙ demand_decided (sym (ap (λ (w : Walk). w.fine) same-walk) ∙ fine)
      where
        marked : M' ≡ over 0 (serve_all first_eight t K hs (take 8192 M)).marks M
        marked = back ∙ ap (λ (l : List ℕ). over 0 l M) (marks ∙ ap (λ (w : Walk). w.marks) same-walk)

-- the hashes demanded are the bytes that came
pub demand-bytes : (n : ℕ) (message out : List ℕ) {out' : List ℕ} → Below 8 message → 4 + 64 * n ≤ length message → out' ≡ over 0 (part 4 (64 * n) message) out
    → out' ≡ over 0 (packed 512 (unpacked 512 n (part 4 (64 * n) message))) out
demand-bytes n message out below room e =
    e ∙ ap (λ (l : List ℕ). over 0 l out) (sym (whole_back 64 n (part 4 (64 * n) message) (part_length 4 message (64 * n) room) (part-below 4 (64 * n) message below)))
