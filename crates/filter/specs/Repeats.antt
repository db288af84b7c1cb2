-- Numbers noted one after the other, in trees: those that leave the same modulo 4,096 are one tree, which branches by the further bits, the
-- lower first. A repeat is found by walking down one tree, a short walk whatever the numbers are (RepeatLaws.walk-short). Cited by private
-- functions alone. The numbers noted are the list seen, the first first.
--
--   Live heads seen q            the head q names one of the numbers noted that leaves q
--   Root heads seen q r          r is the number that a live head q names
--   Leads links j u k w          from number k, with the bits w to come, the links lead to number j, with the bits u to come
--   Led v .. k u                 from the head of its low bits, the bits of v lead to number k, with the bits u to come
--   Spot, below                  where a number stands, by the bits that lead there, and where one bit more leads
--   Forest ..                    each number stands where its bits lead, and one bit more leads to each below another
--   Placed v ..                  where the search for v ends
--
-- Assumes nothing.
use Rattle.std.specs.Prelude.{◌≡◌, true, false, List, ℕ, ◌+◌, ◌*◌, ◌-◌, ◌/◌, ◌%◌, ◌≤◌, ◌<◌, length, get_or, Option, Some, None}
use Rattle.bucket.specs.Lists.{elem}
use Rattle.filter.specs.declared.repeats.Place.{Place}
use Rattle.filter.specs.declared.repeats.Place.TheVariants.{Noted, Head, Link}

-- Heads count numbers from 1. They may be left over from before, so that nothing has to be cleared: one that names no number of its own tree
-- counts as none.
pub record Live (heads seen : List ℕ) (q : ℕ) : Type 0 where
  pub some : 0 < get_or heads q 0
  pub within : get_or heads q 0 ≤ length seen
  pub mine : get_or seen (get_or heads q 0 - 1) 0 % 4096 ≡ q

-- what a search starts at
pub record Root (heads seen : List ℕ) (q : ℕ) (r : Option ℕ) : Type 0 where
  pub none : r ≡ None → Live heads seen q → ⊥
  pub live : (p : ℕ) → r ≡ Some p → (p ≡ get_or heads q 0 - 1) × Live heads seen q

-- The two links of number k stand at 2k and 2k + 1. They too count from 1, and 0 is none.
abbrev pub child : List ℕ → ℕ → ℕ → ℕ
child links k w = get_or links (2 * k + w % 2) 0

pub data Leads (links : List ℕ) (j u : ℕ) : ℕ → ℕ → Type 0 where
  here : Leads links j u j u
  next : {k w : ℕ} → 0 < child links k w → Leads links j u (child links k w - 1) (w / 2) → Leads links j u k w

pub record Led (v : ℕ) (heads links seen : List ℕ) (k u : ℕ) : Type 0 where
  pub live : Live heads seen (v % 4096)
  pub leads : Leads links k u (get_or heads (v % 4096) 0 - 1) (v / 4096)

-- the bits that lead to a number, as a number below the span
pub record Spot : Type 0 where
  pub span : ℕ
  pub path : ℕ

abbrev pub below : Spot → ℕ → Spot
below s b = record { span = 2 * s.span; path = s.path + b * s.span }

-- Each link names a later number or none. The spots are for `walk-short` alone: nothing that the code does goes by them.
pub record Forest (heads links seen : List ℕ) : Type 0 where
  pub heads-len : length heads ≡ 4096
  pub links-len : length links ≡ 8192
  pub stands : (j : ℕ) → j < length seen → (u : ℕ) × Led (get_or seen j 0) heads links seen j u
  pub spots : ℕ → Spot
  pub roots : (j : ℕ) → j < length seen → spots (get_or heads (get_or seen j 0 % 4096) 0 - 1) ≡ record { span = 4096; path = get_or seen j 0 % 4096 }
  pub later : (i : ℕ) → i < 2 * length seen → (get_or links i 0 ≤ length seen)
      × (0 < get_or links i 0 → (i + 2 < 2 * get_or links i 0) × (spots (get_or links i 0 - 1) ≡ below (spots (i / 2)) (i % 2)))

-- the empty link at which the search for v ends
pub record Ends (v : ℕ) (heads links seen : List ℕ) (at : ℕ) : Type 0 where
  pub from : ℕ
  pub rest : ℕ
  pub led : Led v heads links seen from rest
  pub place : at ≡ 2 * from + rest % 2
  pub inside : at < 2 * length seen
  pub empty : get_or links at 0 ≡ 0

unfoldable pub Placed : (v : ℕ) (heads links seen : List ℕ) → Place → Type 0
Placed v heads links seen Noted = elem v seen ≡ true
Placed v heads links seen Head = (elem v seen ≡ false) × (Live heads seen (v % 4096) → ⊥)
Placed v heads links seen (Link at) = (elem v seen ≡ false) × Ends v heads links seen at
