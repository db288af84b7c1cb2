-- Peeling (document 01, "Subtraction and reading"), over a rule, look by look.
--
--   is_pure R i b       bucket i, being b, looks pure
--   look R i b         the item that it then shows
--   first g i n        the first answer of g from bucket i on, among n: one look over the buckets
--   reach g i n        how many buckets that look goes over
--   next R acc f       what a look from bucket 0 leads to: nothing is pure, an ID would be listed again, or an item is taken
--   remove R x f       the buckets with an item taken out of all its places
--   run, reading       the peeling: its items (last first), what remains, and whether it ended in order
--   looking, looked    the buckets that its looks go over, in all
--   agrees t l         each ID listed as ours is in the table, and none listed as theirs is
--   verdict R t r      complete, stuck or false, by document 01
--
-- Laws (proofs/PeelLaws, SoundLaws, ExactLaws): demand 3 stands in proofs/Demand3, the bound of `looked` in proofs/LookLaws.
-- Assumes nothing.
use Rattle.std.specs.Prelude.{Bool, true, false, not, ◌&&◌, cond, List, [], ◌∷◌, ℕ, zero, suc, ◌+◌, eqb, ℤ, pos, negsuc}
use Rattle.std.proofs.Math.Option.{Option, none, some}
use Rattle.bucket.specs.Bucket.{Bucket, ◌⊖◌, is_one, is_zero}
use Rattle.bucket.specs.Lists.{elem}
use Rattle.filter.specs.declared.answers.Verdict.{Verdict}
use Rattle.filter.specs.declared.answers.Verdict.TheVariants.{Complete, Stuck, False}
use Rattle.filter.specs.Filter.{Item, ours, theirs, id_of, ids, Rule, put}

-- "lists its unsalted ID as ours (count 1) or theirs (−1)"
abbrev pub sided : ℤ → ℕ → Item
sided (pos n) a = ours a
sided (negsuc n) a = theirs a

abbrev pub or_else : Option Item → Option Item → Option Item
or_else (some x) o = some x
or_else none o = o

unfoldable pub first : (ℕ → Option Item) → ℕ → ℕ → Option Item
first g i zero = none
first g i (suc n) = or_else (g i) (first g (suc i) n)

abbrev pub up_to : Option Item → ℕ → ℕ → ℕ
up_to (some x) here later = here
up_to none here later = later

-- document 02, Req 11: "for each look from bucket 0, the position of the pure bucket found plus one, or the size if none is found"
unfoldable pub reach : (ℕ → Option Item) → ℕ → ℕ → ℕ
reach g i zero = i
reach g i (suc n) = up_to (g i) (i + 1) (reach g (suc i) n)

unfoldable pub all_zero : (ℕ → Bucket) → ℕ → Bool
all_zero f zero = true
all_zero f (suc n) = is_zero (f n) && all_zero f n

pub data Next : Type 0 where
  nothing : Next
  again : Next
  take : Item → Next

-- "False: an ID already listed, on whichever side, would be listed again"
abbrev pub chosen : Option Item → List Item → Next
chosen none acc = nothing
chosen (some x) acc = cond (elem (id_of x) (ids acc)) again (take x)

-- how a peeling ends: in order or not, the items listed (last first), and what remains
pub record Outcome : Type 0 where
  pub fine : Bool
  pub listed : List Item
  pub rest : ℕ → Bucket

abbrev pub ended : Bool → List Item → (ℕ → Bucket) → Outcome
ended t acc f = record { fine = t; listed = acc; rest = f }

-- an item agrees with the table: otherwise "an ID listed as ours is not in our table or one listed as theirs is"
abbrev pub on_side : List ℕ → Item → Bool
on_side t (ours a) = elem a t
on_side t (theirs a) = not (elem a t)

unfoldable pub agrees : List ℕ → List Item → Bool
agrees t [] = true
agrees t (x ∷ l) = on_side t x && agrees t l

-- not in order: false; something is not zero: stuck; the table's test, "judged once the columns are zero"
abbrev pub verdict_by : Bool → Bool → Bool → Verdict
verdict_by false z t = False
verdict_by true false t = Stuck
verdict_by true true false = False
verdict_by true true true = Complete

abbrev pub is_complete : Verdict → Bool
is_complete Complete = true
is_complete Stuck = false
is_complete False = false

module _ (R : Rule) where
  -- "its count is 1 or −1, its HASHSUM is the CRC-32 of its IDSUM, and the bucket is one of the places of that IDSUM"
  unfoldable pub is_pure : ℕ → Bucket → Bool
  is_pure i b = is_one b.count && (eqb b.hashsum (R.check b.idsum) && elem i (R.places b.idsum))

  unfoldable pub look : ℕ → Bucket → Option Item
  look i b = cond (is_pure i b) (some (sided b.count (R.decode b.idsum))) none

  -- "and removes it from all three places"
  unfoldable pub remove : Item → (ℕ → Bucket) → ℕ → Bucket
  remove x f i = f i ⊖ put R x i

  -- "Peeling takes the lowest-numbered pure bucket .. then it looks again from bucket 0"
  unfoldable pub next : List Item → (ℕ → Bucket) → Next
  next acc f = chosen (first (λ i. look i (f i)) 0 R.size) acc

  -- n more peels may be made; "False: .. or more peels would be made than there are buckets"
  unfoldable pub run : ℕ → Next → List Item → (ℕ → Bucket) → Outcome
  run zero nothing acc f = ended true acc f
  run zero again acc f = ended false acc f
  run zero (take x) acc f = ended false acc f
  run (suc n) nothing acc f = ended true acc f
  run (suc n) again acc f = ended false acc f
  run (suc n) (take x) acc f = run n (next (x ∷ acc) (remove x f)) (x ∷ acc) (remove x f)

  unfoldable pub reading : (ℕ → Bucket) → Outcome
  reading f = run R.size (next [] f) [] f

  -- Req 11: "the number of buckets looked at", step by step as in `run`: each step comes of one look, whatever it leads to, so there is "a last
  -- look made also where the columns are zero", and the look that finds a repeated ID or a peel too many is the last
  unfoldable pub looking : ℕ → Next → List Item → (ℕ → Bucket) → ℕ
  looking zero y acc f = reach (λ i. look i (f i)) 0 R.size
  looking (suc n) nothing acc f = reach (λ i. look i (f i)) 0 R.size
  looking (suc n) again acc f = reach (λ i. look i (f i)) 0 R.size
  looking (suc n) (take x) acc f = reach (λ i. look i (f i)) 0 R.size + looking n (next (x ∷ acc) (remove x f)) (x ∷ acc) (remove x f)

  unfoldable pub looked : (ℕ → Bucket) → ℕ
  looked f = looking R.size (next [] f) [] f

  unfoldable pub verdict : List ℕ → Outcome → Verdict
  verdict t r = verdict_by r.fine (all_zero r.rest R.size) (agrees t r.listed)
