-- An ID entered behind those of its side, and how many IDs the two sides have. Assumes nothing.
use mathlib.Core.Path.{◌≡◌, refl, sym, ap, ap₂, ◌∙◌}
use mathlib.Core.Bool.{true, false≢true}
use mathlib.Core.List.{List, [], ◌∷◌, reverse, reverse-cons}
use Prim.Native.Nat.{ℕ, zero, suc, ◌+◌, ◌^◌, ◌≤◌, ◌<◌}
use native.Mathlib.Nat.{zero-add}
use native.Mathlib.Numerals.{add-one}
use native.Mathlib.Omega.{arith}
use lib.IntN.{ℤ, pos, negsuc}
use lib.ListN.{length, set, length-reverse}
use lib.Signed.{mag}
use mir.Syntax.{w64}
use mir.Val.{of_z, hbits}
use Rattle.bucket.specs.Bucket.{is_one}
use Rattle.bucket.specs.Lists.{over}
use Rattle.bucket.proofs.OverLaws.{over-nil, over-length, over-set}
use Rattle.filter.specs.Filter.{Item, ours_of, theirs_of}
use Rattle.filter.specs.Peeling.{sided}
use Rattle.filter.specs.Steps.{Listed}
use Rattle.filter.proofs.SideLaws.{sides_length}

-- ---- how many

listed-behind : (l₀ l : List ℕ) → length l ≤ length l₀ → length (over 0 (reverse l) l₀) ≡ length l₀
listed-behind l₀ l h = over-length 0 l₀ (reverse l) (omega (arith, length-reverse l))

module _ (o₀ t₀ : List ℕ) (acc : List Item) (o t : List ℕ) (a b : ℕ) (l : Listed o₀ t₀ acc o t a b) where
  pub listed-count : a + b ≡ length acc
  listed-count = ap₂ ◌+◌ l.ours-count l.theirs-count ∙ sides_length acc

  pub ours-length : length acc ≤ length o₀ → length o ≡ length o₀
  ours-length h = ap length l.ours ∙ listed-behind o₀ (ours_of acc) (omega (arith, sides_length acc))

  pub theirs-length : length acc ≤ length t₀ → length t ≡ length t₀
  theirs-length h = ap length l.theirs ∙ listed-behind t₀ (theirs_of acc) (omega (arith, sides_length acc))

pub listed-nothing : (o t : List ℕ) → Listed o t [] o t 0 0
unfolding ours_of theirs_of
listed-nothing o t = record { ours = sym (over-nil 0 o); theirs = sym (over-nil 0 t); ours-count = refl; theirs-count = refl }

-- ---- one more

listed_next : (l₀ l o : List ℕ) (a v : ℕ) → o ≡ over 0 (reverse l) l₀ → a ≡ length l → a < length l₀
    → set o a v ≡ over 0 (reverse (v ∷ l)) l₀
listed_next l₀ l o a v e n h =
    ap (λ (q : List ℕ). set q a v) e
    ∙ over-set 0 l₀ (reverse l) v a (zero-add (length (reverse l)) ∙ length-reverse l ∙ sym n) h
    ∙ ap (λ (q : List ℕ). over 0 q l₀) (sym (reverse-cons v l))

module _ (o₀ t₀ : List ℕ) (acc : List Item) (o t : List ℕ) (a b v : ℕ) where
  pub listed-ours : (s : ℤ) → of_z w64 s ≡ 1 → mag s < 2 ^ hbits w64 → a < length o₀ → Listed o₀ t₀ acc o t a b
      → Listed o₀ t₀ (sided s v ∷ acc) (set o a v) t (a + 1) b
  unfolding ours_of theirs_of
  listed-ours (pos n) e f h l = record {
    ours = listed_next o₀ (ours_of acc) o a v l.ours l.ours-count h;
    theirs = l.theirs;
    ours-count = add-one a ∙ ap suc l.ours-count;
    theirs-count = l.theirs-count;
  }
  listed-ours (negsuc n) e f h l = absurd (omega arith)

  pub listed-theirs : (s : ℤ) → (of_z w64 s ≡ 1 → ⊥) → is_one s ≡ true → b < length t₀ → Listed o₀ t₀ acc o t a b
      → Listed o₀ t₀ (sided s v ∷ acc) o (set t b v) a (b + 1)
  unfolding ours_of theirs_of
  listed-theirs (pos zero) e f h l = absurd (false≢true f)
  listed-theirs (pos (suc zero)) e f h l = absurd (e refl)
  listed-theirs (pos (suc (suc n))) e f h l = absurd (false≢true f)
  listed-theirs (negsuc n) e f h l = record {
    ours = l.ours;
    theirs = listed_next t₀ (theirs_of acc) t b v l.theirs l.theirs-count h;
    ours-count = l.ours-count;
    theirs-count = add-one b ∙ ap suc l.theirs-count;
  }
