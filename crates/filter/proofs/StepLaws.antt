-- The loop of a peeling: what holds before each turn, and each way through it. Assumes nothing.
use mathlib.Core.Path.{◌≡◌, refl, sym, ap, ap₂, subst, ◌∙◌, fun_ext}
use mathlib.Core.Logic.{◌⊎◌, ⊎_elim}
use mathlib.Core.Bool.{Bool, true, false}
use mathlib.Core.List.{List, [], ◌∷◌, ◌++◌, reverse, reverse-cons}
use Prim.Native.Nat.{ℕ, suc, ◌+◌, ◌-◌, ◌^◌, ◌≤◌, ◌<◌, zero-le}
use native.Mathlib.Nat.{sub-zero}
use native.Mathlib.Omega.{arith}
use lib.Dec.{ltb}
use lib.IntN.{ℤ, pos, nat_abs}
use lib.ListN.{length, get_or, length-reverse, length-map}
use borrow.Author.Tests.{ltb-true, ltb-false}
use Rattle.std.specs.Prelude.{Option, Some, None, is_some, position}
use Rattle.bucket.specs.Bucket.{Bucket, bucket, neg, is_one}
use Rattle.bucket.specs.Columns.{Columns, columns, view}
use Rattle.bucket.specs.Lists.{elem}
use Rattle.bucket.specs.Places.{places}
use Rattle.bucket.specs.Salt.{unsalted}
use Rattle.bucket.proofs.ColumnLaws.{SameLengths}
use Rattle.filter.specs.Calls.{filled}
use Rattle.filter.specs.Filter.{Item, id_of, ids, Rule, rule}
use Rattle.filter.specs.Peeling.{sided, reach, again, take, Outcome, next, reading, looked, remove, is_pure}
use Rattle.filter.specs.Marks.{marks}
use Rattle.filter.specs.declared.peeling.Lengths.{Lengths}
use Rattle.filter.specs.Steps.{Wide, Small, Sound, spread, shows, Listed, Peels}
use Rattle.filter.proofs.FilledLaws.{filled_is_lengths, filled-filled, filled-view, view-filled_in, view-filled-out, wide-same}
use Rattle.filter.proofs.SpreadLaws.{small-more, small-spread}
use Rattle.filter.proofs.MarkLaws.{Least, none_first, some_first}
use Rattle.filter.proofs.PeelLaws.{
  looks,
  first_pure,
  first_impure,
  Inv,
  Ended,
  inv-start,
  inv-take,
  inv-nothing,
  inv-again,
  inv_full,
  next-none,
  next-fresh,
  next_repeat,
  shown,
  shows-none,
  least-inside,
  least_pure,
  least-below,
}
use Rattle.filter.proofs.LookLaws.{looked-most, most_of_all}
use Rattle.filter.proofs.ShowLaws.{shows-salt}
use Rattle.filter.proofs.ListedLaws.{listed-nothing, listed-count, ours-length, theirs-length}
use Rattle.filter.proofs.SelectLaws.{elem-reverse}
use Rattle.filter.proofs.TakingLaws.{abs_neg}
use Rattle.filter.proofs.PureLaws.{id-sided, abs_one, pure_one, pure_removed, removed_past}

-- what a peeling is given, and what it holds
pub record Input : Type 0 where
  pub size : ℕ
  pub k : ℕ
  pub salt : ℕ
  pub columns : Columns
  pub ours : List ℕ
  pub theirs : List ℕ

pub record State : Type 0 where
  pub columns : Columns
  pub ours : List ℕ
  pub theirs : List ℕ
  pub shown : List Bool
  pub noted : List ℕ
  pub listed : Lengths
  pub looked : ℕ

abbrev pub rule_of : Input → Rule
rule_of n = rule n.k n.size n.salt

-- the set that the code keeps: the salt has no part in it
abbrev pub pure_in : Input → Columns → ℕ → Bool
pure_in n c = shows (rule n.k n.size 0) (view c)

-- what is promised of an end: what was listed, if it was in order, and that l buckets were looked at
pub record Ends (n : Input) (g : State) (r : Option Lengths) (l : ℕ) : Type 0 where
  pub peels : Peels n.size (reading (rule_of n) (view n.columns)) n.columns n.ours n.theirs r g.columns g.ours g.theirs
  pub looked : l ≡ looked (rule_of n) (view n.columns)

pub record Fit (n : Input) : Type 0 where
  pub sound : Sound n.size n.k n.salt
  pub wide : Wide n.size n.columns
  pub ours : n.size ≤ length n.ours
  pub theirs : n.size ≤ length n.theirs
  pub small : Small n.size (2 ^ 34) n.columns

pub record Peeling (n : Input) (g : State) : Type 0 where
  pub fit : Fit n
  pub acc : List Item
  pub few : length acc ≤ n.size
  pub small : Small n.size (2 ^ 34 + length acc) g.columns
  pub shown : g.shown ≡ marks (pure_in n g.columns)
  pub noted : g.noted ≡ reverse (ids acc)
  pub listed : Listed n.ours n.theirs acc g.ours g.theirs g.listed.ours g.listed.theirs
  pub inv : Inv (rule_of n) (view n.columns) (n.size - length acc) acc (view g.columns) g.looked
  pub kept : g.columns ≡ filled n.size (view g.columns) n.columns

-- the lowest bucket that looks pure, its parts, and the ID that it shows
pub record Found (n : Input) (g : State) : Type 0 where
  pub b : ℕ
  pub x : ℕ
  pub h : ℕ
  pub z : ℤ
  pub id : ℕ
  pub lowest : Some b ≡ position (λ on. on) g.shown
  pub here : view g.columns b ≡ bucket x h z
  pub fits : x < 2 ^ 64
  pub un : id ≡ unsalted n.salt x

-- ---- before the first turn

abbrev pub begun : Input → List Bool → State
begun n shown = record {
  columns = n.columns;
  ours = n.ours;
  theirs = n.theirs;
  shown = shown;
  noted = [];
  listed = record { ours = 0; theirs = 0 };
  looked = 0;
}

pub peeling_start : (n : Input) {shown : List Bool} → Fit n → shown ≡ marks (pure_in n n.columns) → Peeling n (begun n shown)
peeling_start n f m = record {
  fit = f;
  acc = [];
  few = zero-le;
  small = f.small;
  shown = m;
  noted = refl;
  listed = listed-nothing n.ours n.theirs;
  inv = subst (λ (j : ℕ). Inv (rule_of n) (view n.columns) j [] (view n.columns) 0) (sym (sub-zero n.size))
      (inv-start (rule_of n) (view n.columns));
  kept = sym (filled-view n.size n.columns f.wide);
}

module _ {n : Input} {g : State} (p : Peeling n g) where
  -- ---- in any turn

  pub peeling_lengths : SameLengths g.columns n.columns
  peeling_lengths = filled_is_lengths n.size (view g.columns) n.columns g.columns p.kept

  pub peeling_wide : Wide n.size g.columns
  peeling_wide = wide-same n.size g.columns n.columns peeling_lengths p.fit.wide

  pub peeling_small : Small n.size (2 ^ 60) g.columns
  peeling_small =
      small-more n.size (2 ^ 34 + length p.acc) (2 ^ 60) g.columns (omega (arith, p.few, p.fit.sound.most)) p.small

  pub peeling_noted : length g.noted ≡ length p.acc
  peeling_noted = ap length p.noted ∙ length-reverse (ids p.acc) ∙ length-map p.acc id_of

  pub peeling_count : g.listed.ours + g.listed.theirs ≡ length p.acc
  peeling_count = listed-count n.ours n.theirs p.acc g.ours g.theirs g.listed.ours g.listed.theirs p.listed

  pub peeling_ours : length g.ours ≡ length n.ours
  peeling_ours =
      ours-length n.ours n.theirs p.acc g.ours g.theirs g.listed.ours g.listed.theirs p.listed (omega (arith, p.few, p.fit.ours))

  pub peeling_theirs : length g.theirs ≡ length n.theirs
  peeling_theirs =
      theirs-length n.ours n.theirs p.acc g.ours g.theirs g.listed.ours g.listed.theirs p.listed (omega (arith, p.few, p.fit.theirs))

  -- as the whole reading does
  pub peeling_looked : g.looked ≤ 16781312
  peeling_looked =
      omega (arith, p.inv.1, looked-most (rule_of n) (view n.columns), most_of_all n.size p.fit.sound.most)

  -- how far the look of this turn goes
  abbrev one : ℕ
  one = reach (looks (rule_of n) (view g.columns)) 0 n.size

  ends : (r : Option Lengths) (l : ℕ) → ((m : Lengths) → r ≡ Some m → m ≡ g.listed) → l ≡ one
      → Ended (rule_of n) (view n.columns) (is_some r) p.acc (view g.columns) (g.looked + one)
      → Ends n g r (g.looked + l)
  ends r l here o (e, m) = record {
    peels = record {
      fine_is = ap (λ (q : Outcome). q.fine) (sym e);
      rest_is = λ _. p.kept ∙ ap (λ (q : Outcome). filled n.size q.rest n.columns) (sym e);
      listed_is = λ v s.
          subst (λ (q : Outcome). Listed n.ours n.theirs q.listed g.ours g.theirs v.ours v.theirs) (sym e)
          (rw (here v s) p.listed);
      listed_few = λ v s. rw (here v s) (omega (arith, peeling_count, p.few));
      some = p.acc;
      ours-some = g.listed.ours;
      theirs-some = g.listed.theirs;
      listed-some = p.listed;
      few = p.few;
      rest = view g.columns;
      kept = p.kept;
    };
    looked = ap (λ (j : ℕ). g.looked + j) o ∙ sym m;
  }

  -- ---- no bucket looks pure

  pub peeling_done : None ≡ position (λ on. on) g.shown → Ends n g (Some g.listed) (g.looked + n.size)
  peeling_done z =
      ends (Some g.listed) n.size (λ m e. cc) (omega (arith, (first_impure (rule_of n) (view g.columns) n.size impure).1))
      (inv-nothing (rule_of n) (view n.columns) p.acc (view g.columns) g.looked (n.size - length p.acc) p.inv
      (next-none (rule_of n) p.acc (view g.columns) impure))
    where
      none : (b : ℕ) → b < n.size → shows (rule_of n) (view g.columns) b ≡ false
      none b h =
          ap (λ (s : ℕ → Bool). s b) (shows-salt n.k n.size n.salt 0 (view g.columns))
          ∙ none_first (pure_in n g.columns) (rw p.shown at z) b (omega (arith, h, p.fit.sound.most))

      impure : (b : ℕ) → b < n.size → is_pure (rule_of n) b (view g.columns b) ≡ false
      impure = shows-none (rule_of n) (view g.columns) none

  -- ---- bucket b does

  module _ {b : ℕ} (found : Some b ≡ position (λ on. on) g.shown) where
    least : Least (shows (rule_of n) (view g.columns)) b
    least =
        subst (λ (s : ℕ → Bool). Least s b) (shows-salt n.k n.size 0 n.salt (view g.columns))
        (some_first (pure_in n g.columns) (rw p.shown at found))

    pub least_in : b < n.size
    least_in = least-inside (rule_of n) (view g.columns) b least

    -- as far as the look of this turn goes
    least-reach : b + 1 ≡ one
    least-reach =
        sym (first_pure (rule_of n) (view g.columns) n.size b (least-below (rule_of n) (view g.columns) b least) least_in
        (least_pure (rule_of n) (view g.columns) b least)).1

  module _ (f : Found n g) where
    first : Least (shows (rule_of n) (view g.columns)) f.b
    first = least f.lowest

    pure : is_pure (rule_of n) f.b (bucket f.x f.h f.z) ≡ true
    pure = ap (is_pure (rule_of n) f.b) (sym f.here) ∙ least_pure (rule_of n) (view g.columns) f.b first

    pub found-one : is_one f.z ≡ true
    found-one = pure_one n.k n.size n.salt f.b f.x f.h f.z pure

    pub found_abs : nat_abs f.z ≤ 1
    found_abs = abs_one f.z found-one

    abbrev was_listed : Bool
    was_listed = elem f.id g.noted

    item_shown : shown (rule_of n) (view g.columns f.b) ≡ sided f.z f.id
    item_shown = ap (shown (rule_of n)) f.here ∙ ap (sided f.z) (sym f.un)

    test_shown : elem (id_of (shown (rule_of n) (view g.columns f.b))) (ids p.acc) ≡ was_listed
    test_shown =
        ap (λ (v : ℕ). elem v (ids p.acc)) (ap id_of item_shown ∙ id-sided f.z f.id)
        ∙ sym (ap (elem f.id) p.noted ∙ elem-reverse f.id (ids p.acc))

    repeats : was_listed ≡ true → next (rule_of n) p.acc (view g.columns) ≡ again
    repeats e =
        next_repeat (rule_of n) p.acc (view g.columns) f.b (least-below (rule_of n) (view g.columns) f.b first)
        (least_in f.lowest) (least_pure (rule_of n) (view g.columns) f.b first) (test_shown ∙ e)

    takes : was_listed ≡ false → next (rule_of n) p.acc (view g.columns) ≡ take (sided f.z f.id)
    takes e =
        next-fresh (rule_of n) p.acc (view g.columns) f.b (least-below (rule_of n) (view g.columns) f.b first)
        (least_in f.lowest) (least_pure (rule_of n) (view g.columns) f.b first) (test_shown ∙ e)
        ∙ ap take item_shown

    -- its ID was listed before
    peeling_repeated : was_listed ≡ true → Ends n g None (g.looked + (f.b + 1))
    peeling_repeated e =
        ends None (f.b + 1) (λ m q. cc) (least-reach f.lowest)
        (inv-again (rule_of n) (view n.columns) p.acc (view g.columns) g.looked (n.size - length p.acc) p.inv (repeats e))

    -- as many peels were made as there are buckets
    peeling_full : length g.noted ≡ n.size → Ends n g None (g.looked + (f.b + 1))
    peeling_full e = ends None (f.b + 1) (λ m q. cc) (least-reach f.lowest) (either was_listed refl)
      where
        last : Inv (rule_of n) (view n.columns) 0 p.acc (view g.columns) g.looked
        last = subst (λ (j : ℕ). Inv (rule_of n) (view n.columns) j p.acc (view g.columns) g.looked) (omega (arith, e, peeling_noted)) p.inv

        either : (t : Bool) → was_listed ≡ t → Ended (rule_of n) (view n.columns) false p.acc (view g.columns) (g.looked + one)
        either true q = inv-again (rule_of n) (view n.columns) p.acc (view g.columns) g.looked 0 last (repeats q)
        either false q = inv_full (rule_of n) (view n.columns) p.acc (view g.columns) g.looked (sided f.z f.id) last (takes q)

    pub peeling_stopped : (length g.noted ≡ n.size) ⊎ (was_listed ≡ true) → Ends n g None (g.looked + (f.b + 1))
    peeling_stopped = ⊎_elim peeling_full peeling_repeated

    -- it is peeled
    pub peeling_next : {g' : State} → (length g.noted ≡ n.size → ⊥) → g'.looked ≡ g.looked + (f.b + 1)
        → was_listed ≡ false → g'.noted ≡ g.noted ++ f.id ∷ []
        → g'.columns ≡ filled n.size (spread (places n.k n.size f.h) (neg (bucket f.x f.h f.z)) (view g.columns)) g.columns
        → g'.shown ≡ marks (pure_in n g'.columns)
        → Listed n.ours n.theirs (sided f.z f.id ∷ p.acc) g'.ours g'.theirs g'.listed.ours g'.listed.theirs
        → Peeling n g'
    peeling_next {g'} ne far fresh noted taken shown listed = record {
      fit = p.fit;
      acc = sided f.z f.id ∷ p.acc;
      few = omega (arith, more);
      small = small-more n.size (2 ^ 34 + length p.acc + 1) (2 ^ 34 + suc (length p.acc)) g'.columns (omega arith)
          (small-spread n.size (2 ^ 34 + length p.acc) (places n.k n.size f.h) (neg (bucket f.x f.h f.z)) g.columns g'.columns
          (omega (arith, found_abs, abs_neg (bucket f.x f.h f.z))) inside p.small);
      shown = shown;
      noted = noted ∙ ap₂ {C = List ℕ} (λ (l : List ℕ) (v : ℕ). l ++ v ∷ []) p.noted (sym (id-sided f.z f.id))
          ∙ sym (reverse-cons (id_of (sided f.z f.id)) (ids p.acc));
      listed = listed;
      inv = subst (λ (h : ℕ → Bucket). Inv (rule_of n) (view n.columns) (n.size - suc (length p.acc)) (sided f.z f.id ∷ p.acc) h g'.looked) (sym (fun_ext gone))
          (subst (Inv (rule_of n) (view n.columns) (n.size - suc (length p.acc)) (sided f.z f.id ∷ p.acc) (remove (rule_of n) (sided f.z f.id) (view g.columns))) looks_on
          (inv-take (rule_of n) (view n.columns) p.acc (view g.columns) g.looked (n.size - suc (length p.acc)) (sided f.z f.id)
          (subst (λ (j : ℕ). Inv (rule_of n) (view n.columns) j p.acc (view g.columns) g.looked) some p.inv)
          (takes fresh)));
      kept = sym (filled-view n.size g'.columns wide')
          ∙ ap (filled n.size (view g'.columns)) (taken ∙ ap (filled n.size out) p.kept)
          ∙ filled-filled n.size out (view g'.columns) (filled n.size (view g.columns) n.columns)
          (subst (Wide n.size) p.kept peeling_wide)
          ∙ filled-filled n.size (view g.columns) (view g'.columns) n.columns p.fit.wide;
    }
      where
        out : ℕ → Bucket
        out = spread (places n.k n.size f.h) (neg (bucket f.x f.h f.z)) (view g.columns)

        looks_on : g.looked + reach (looks (rule_of n) (view g.columns)) 0 n.size ≡ g'.looked
        looks_on = omega (arith, far, least-reach f.lowest)

        more : length p.acc < n.size
        more = omega (arith, p.few, ne, peeling_noted)

        some : n.size - length p.acc ≡ suc (n.size - suc (length p.acc))
        some = omega (arith, more)

        wide' : Wide n.size g'.columns
        wide' = wide-same n.size g'.columns g.columns (filled_is_lengths n.size out g.columns g'.columns taken) peeling_wide

        inside : (i : ℕ) → i < n.size → view g'.columns i ≡ out i
        inside i q = ap (λ (v : Columns). view v i) taken ∙ view-filled_in n.size out g.columns i peeling_wide q

        gone : (i : ℕ) → view g'.columns i ≡ remove (rule_of n) (sided f.z f.id) (view g.columns) i
        gone i = go (ltb i n.size) refl
          where
            go : (t : Bool) → ltb i n.size ≡ t → view g'.columns i ≡ remove (rule_of n) (sided f.z f.id) (view g.columns) i
            go true q =
                inside i (ltb-true i n.size q)
                ∙ pure_removed n.k n.size n.salt f.b f.x f.h f.z pure f.fits (view g.columns) i
                ∙ ap (λ (v : ℕ). remove (rule_of n) (sided f.z v) (view g.columns) i) (sym f.un)
            go false q =
                let past = ltb-false i n.size q in
                ap (λ (v : Columns). view v i) taken
                ∙ view-filled-out n.size out g.columns i past
                ∙ sym (removed_past n.k n.size n.salt (sided f.z f.id) (view g.columns) i past)

-- a bucket as it is read
pub bucket-read : (is hs : List ℕ) (cs : List ℤ) (i : ℕ) (z : ℤ) → z ≡ get_or cs i (pos 0)
    → view (columns is hs cs) i ≡ bucket (get_or is i 0) (get_or hs i 0) z
unfolding view
bucket-read is hs cs i z e = ap (bucket (get_or is i 0) (get_or hs i 0)) (sym e)
