-- A chain of calls, one link more. Assumes nothing.
use Rattle.std.proofs.Common.{◌≡◌, ℕ, ◌+◌, sym, refl, ap, ◌∙◌, add-one}
use Rattle.bucket.specs.Places.{draw}

pub chain_more : (next : ℕ → ℕ → ℕ) (d e i : ℕ) → e ≡ draw next d i → next e i ≡ draw next d (i + 1)
unfolding draw
chain_more next d e i h = ap (λ (x : ℕ). next x i) h ∙ ap (draw next d) (sym (add-one i))

pub chain_none : (next : ℕ → ℕ → ℕ) (d : ℕ) → d ≡ draw next d 0
unfolding draw
chain_none next d = refl
