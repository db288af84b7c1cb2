-- Laws of what an input prints: its parts, the room that a text takes, and what each outcome of a reading prints. Assumes nothing.
use mathlib.Core.Path.{◌≡◌, refl, sym, ap, ap₂, ◌∙◌}
use mathlib.Core.Bool.{Bool, true, false, ◌&&◌, cond, and-eq-true_iff}
use mathlib.Core.List.{List}
use Prim.Native.Nat.{ℕ, ◌+◌, ◌-◌, ◌*◌, ◌^◌, ◌≤◌, ◌<◌}
use native.Mathlib.Omega.{arith}
use lib.ListN.{length, take, replicate, length-take}
use lib.Dec.{leb, eqb}
use lib.Seq.{length-take-le}
use borrow.Author.Tests.{leb-true, eqb-true, eq-eqb, ne_eqb}
use Rattle.std.specs.Prelude.{None, Some, Err}
use Rattle.io.specs.Counts.{IsPrefixLen}
use Rattle.bucket.specs.Columns.{Columns}
use Rattle.bucket.specs.Lists.{part}
use Rattle.bucket.proofs.TestLaws.{cond-kept, cond-made}
use Rattle.filter.specs.declared.answers.Verdict.{Verdict}
use Rattle.filter.specs.declared.answers.Verdict.TheVariants.{Complete, Stuck, False}
use Rattle.filter.specs.declared.answers.ReadAnswer.{ReadAnswer}
use Rattle.filter.specs.declared.answers.Refusal.{Refusal}
use Rattle.filter.specs.declared.answers.Unread.{Unread}
use Rattle.filter.specs.declared.answers.Unread.TheVariants.{Untrue}
use Rattle.filter.specs.Answers.{refusal_number, number_of, refusal_of, answer_of}
use Rattle.filter.specs.Filter.{filter_rule}
use Rattle.filter.specs.Peeling.{Outcome}
use Rattle.filter.specs.Table.{first_eight, ids_of, is_table}
use Rattle.filter.specs.Calls.{Read, built, build_call, answered, unread, read_with, read_by, read_refusal, outcome_of, verdict_of, read_call}
use Rattle.filter.proofs.GrantedLaws.{number_zero}
use Rattle.filter.proofs.SideLaws.{sides_length}
use Rattle.filter.proofs.PeelLaws.{listed-few}
use Rattle.differ.specs.Text.{ours_label, theirs_label, listing, refusal, Writes}
use Rattle.differ.specs.Report.{size_of, count_a, count_b, is_input, table_a, table_b, blank, received, our_reading, shown, compared, printed, Reports}
use Rattle.differ.proofs.TextLaws.{decimal-length, heading-length, lines-length, listing-length, refusal-length}

-- an input's length
pub input_whole : (input : List ℕ) → is_input input ≡ true → length input ≡ 6 + 64 * (count_a input + count_b input)
unfolding is_input
input_whole input h =
    let n = count_a input + count_b input in
    eqb-true (length input) (6 + 64 * n) ((and-eq-true_iff (leb n 1000) (eqb (length input) (6 + 64 * n))).0 h).1

-- the two tables, as the code cuts them
pub first_part : (input : List ℕ) (n : ℕ) → n ≡ count_a input → part 6 (6 + 64 * n - 6) input ≡ table_a input
first_part input n e =
    let long : 6 + 64 * n - 6 ≡ 64 * count_a input = omega arith in
    ap (λ (k : ℕ). part 6 k input) long

pub second_part : (input : List ℕ) (n : ℕ) → n ≡ count_a input → length input ≡ 6 + 64 * (n + count_b input)
    → part (6 + 64 * n) (length input - (6 + 64 * n)) input ≡ table_b input
second_part input n e h =
    let long : length input - (6 + 64 * n) ≡ 64 * count_b input = omega arith in
    ap₂ (λ (k m : ℕ). part (6 + 64 * k) m input) e long

-- the room that a text takes
pub refusal-fits : (n : ℕ) → n < 2 ^ 32 → length (refusal n) ≤ 16384
refusal-fits n h = omega (arith, refusal-length n, decimal-length n h)

pub listing-fits : (size whole m n : ℕ) (o th : List ℕ) → size < 2 ^ 32 → whole < 2 ^ 32 → m + n ≤ 512
    → length (listing size whole (take m o) (take n th)) ≤ 16384
listing-fits size whole m n o th hs hw few =
    omega (
      arith,
      listing-length size whole (take m o) (take n th),
      heading-length size whole,
      decimal-length size hs,
      decimal-length whole hw,
      lines-length ours_label (take m o),
      lines-length theirs_label (take n th),
      length-take m o,
      length-take n th,
    )

-- at most as many IDs are listed as there are buckets
few_with : (v : Verdict) (size : ℕ) (r : Outcome) (l : ℕ) (c : Columns) (o th : List ℕ) → length r.listed ≤ size
    → (read_with v size r l c o th).answer.ours + (read_with v size r l c o th).answer.theirs ≤ size
unfolding read_with
few_with Complete size r l c o th h = omega (arith, sides_length r.listed)
few_with Stuck size r l c o th h = omega (arith, sides_length r.listed)
few_with False size r l c o th h = omega arith

few-read : (size : ℕ) (t : List ℕ) (c : Columns) (o th : List ℕ)
    → (read_call first_eight size 0 t c o th).answer.ours + (read_call first_eight size 0 t c o th).answer.theirs ≤ size
unfolding read_call
few-read size t c o th = go (eqb n 0)
  where
    n : ℕ
    n = number_of (read_refusal first_eight size 0 t c o th)

    r : Read
    r = read_by (ids_of first_eight t) size 0 c o th

    go : (b : Bool) → (cond b r (unread n c o th)).answer.ours + (cond b r (unread n c o th)).answer.theirs ≤ size
    go true = few_with (verdict_of (ids_of first_eight t) size 0 c) size (outcome_of (ids_of first_eight t) size 0 c) _ c o th (listed-few (filter_rule size 0) _)
    go false = omega arith

pub few-listed : (size : ℕ) (a b : List ℕ) → (our_reading size a b).answer.ours + (our_reading size a b).answer.theirs ≤ size
unfolding our_reading
few-listed size a b = few-read size a (received size b) (replicate 512 0) (replicate 512 0)

-- the two calls, one behind the other
pub read_result : (size k : ℕ) (a b : List ℕ) (w : ReadAnswer) (c c' : Columns) (o th : List ℕ)
    → built k c ≡ build_call first_eight size 0 b blank
    → answered w c' o th ≡ read_call first_eight size 0 a c (replicate 512 0) (replicate 512 0)
    → answered w c' o th ≡ our_reading size a b
unfolding our_reading received
read_result size k a b w c c' o th made e =
    e ∙ ap (λ (q : Columns). read_call first_eight size 0 a q (replicate 512 0) (replicate 512 0)) (ap (λ q. q.columns) made)

-- the number of a reading that found nothing, which is not 0
pub unread_number : (u : Unread) → (answer_of (Err u)).refusal ≡ refusal_number (refusal_of u)
unread_number Unread.Form = refl
unread_number Unread.Range = refl
unread_number Unread.Room = refl
unread_number (Untrue l) = refl

pub refusal_some : (r : Refusal) → refusal_number r ≡ 0 → ⊥
refusal_some r e = let none : Some r ≡ None = number_zero (Some r) e in cc

-- what a reading prints
pub shown-refused : (size n : ℕ) {w : ReadAnswer} {c : Columns} {o th : List ℕ} {r : Read} → answered w c o th ≡ r → n ≡ w.refusal → (n ≡ 0 → ⊥) → refusal n ≡ shown size r
unfolding shown
shown-refused size n {w} e f h =
    ap refusal f ∙ cond-kept _ _ (ne_eqb w.refusal 0 (λ z. h (f ∙ z))) ∙ ap (shown size) e

pub shown-listed : (size n k p q : ℕ) {w : ReadAnswer} {c : Columns} {o th : List ℕ} {r : Read} → answered w c o th ≡ r
    → n ≡ w.refusal → n ≡ 0 → k ≡ w.complete → p ≡ w.ours → q ≡ w.theirs → listing size k (take p o) (take q th) ≡ shown size r
unfolding shown
shown-listed size n k p q {w} {o = o} {th = th} e f z ek ep eq =
    (λ j. listing size (ek j) (take (ep j) o) (take (eq j) th))
    ∙ cond-made _ _ (eq-eqb w.refusal 0 (sym f ∙ z))
    ∙ ap (shown size) e

pub size_small : (size : ℕ) → leb 37 size && leb size 512 ≡ true → size ≤ 512
size_small size h = leb-true size 512 ((and-eq-true_iff (leb 37 size) (leb size 512)).0 h).1

-- what two tables print
module _ (size : ℕ) (a b : List ℕ) where
  pub compared-form : is_table first_eight a && is_table first_eight b ≡ false → refusal 1 ≡ compared size a b
  unfolding compared
  compared-form h = cond-kept _ _ h

  pub compared-range : is_table first_eight a && is_table first_eight b ≡ true → leb 37 size && leb size 512 ≡ false → refusal 3 ≡ compared size a b
  unfolding compared
  compared-range h k = cond-kept _ _ k ∙ cond-made _ _ h

  pub compared-shown : is_table first_eight a && is_table first_eight b ≡ true → leb 37 size && leb size 512 ≡ true → shown size (our_reading size a b) ≡ compared size a b
  unfolding compared
  compared-shown h k = cond-made _ _ k ∙ cond-made _ _ h

-- what an input prints
pub printed_malformed : (input : List ℕ) → is_input input ≡ false → refusal 1 ≡ printed input
unfolding printed
printed_malformed input h = cond-kept _ _ h

pub printed-compared : (input : List ℕ) {size : ℕ} {a b : List ℕ} → is_input input ≡ true → size ≡ size_of input → a ≡ table_a input → b ≡ table_b input
    → compared size a b ≡ printed input
unfolding printed
printed-compared input h es ea eb = (λ j. compared (es j) (ea j) (eb j)) ∙ cond-made _ _ h

pub reports : (input : List ℕ) {l m : List ℕ} {r : ℕ} → 16384 ≤ length l → Writes 0 (printed input) l r m → IsPrefixLen r m × Reports input l r m
reports input {m = m} {r = r} h w =
    ((w.within, sym (length-take-le r m w.within)), record { written = λ _. w; unwritten = λ short. absurd (omega arith) })
