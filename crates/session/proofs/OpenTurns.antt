-- What a complete reading opens, as it is done: messages sent one after the other, the hashes that are offered, the checksum. Assumes nothing.
use mathlib.Core.Path.{◌≡◌, refl, sym, ap, ap₂, subst, ◌∙◌}
use mathlib.Core.Bool.{Bool, true, false, cond}
use mathlib.Core.List.{List, [], ◌∷◌, ◌++◌, foldr, append_assoc, append-nil}
use Prim.Native.Nat.{ℕ, ◌+◌, ◌*◌, ◌^◌, ◌≤◌, ◌<◌}
use native.Mathlib.Omega.{arith}
use borrow.Author.Tests.{ltb-true, ltb-false, eq-eqb, ne_eqb}
use lib.Bits.{bit_xor, xor_zero_r}
use lib.Dec.{eqb, ltb}
use lib.ListN.{length, take, get_or, length-append, length-map, get_or-eq_default}
use lib.Pow.{pow_pos}
use Rattle.bucket.specs.Crc.{tabulated}
use Rattle.bucket.specs.Digits.{joined, packed}
use Rattle.bucket.specs.Lists.{over}
use Rattle.bucket.proofs.ListLaws.{elem-nil, elem_cases, elem_at}
use Rattle.bucket.proofs.OverLaws.{then_over}
use Rattle.filter.specs.Lists.{distinct}
use Rattle.filter.specs.Table.{first_eight, hashes_of, ids_of, is_table, position}
use Rattle.message.specs.Layout.{Content, done}
use Rattle.message.specs.Writing.{layouts, inquiries_of, offers_of}
use Rattle.ledger.specs.declared.numbers.Numbers.{Numbers}
use Rattle.ledger.specs.declared.numbers.Answer.{Answer}
use Rattle.ledger.specs.Memory.{marked}
use Rattle.ledger.specs.Calls.{answered}
use Rattle.ledger.proofs.BelowLaws.{Fit, hashes-written, hashes-fit}
use Rattle.session.specs.Moves.{inserted_all, check_of}
use Rattle.session.specs.Ready.{Sent}
use Rattle.form.specs.Answers.{opened_numbers}
use Rattle.session.specs.Turns.{mark_all, hashes_at, open_turn, open_turn'}
use Rattle.filter.proofs.SetLaws.{clash}
use Rattle.session.proofs.CheckBytes.{check-short, bytes-sum, sum_number}
use Rattle.ledger.proofs.RoomLaws.{layouts-append, inquiries_room, offers-room}

-- ---- messages sent one after the other

pub sent-first : (cs : List Content) {out₀ out : List ℕ} {n : ℕ} → n ≡ 0 + length (layouts cs) → out ≡ over 0 (layouts cs) out₀ → Sent cs out₀ out n
sent-first cs e f = record { count = omega (arith, e); bytes = f }

pub sent_then : {cs : List Content} (ds : List Content) {out₀ out out' : List ℕ} {n n' : ℕ} → Sent cs out₀ out n → length (layouts cs) + length (layouts ds) ≤ length out₀
    → n' ≡ n + length (layouts ds) → out' ≡ over n (layouts ds) out → Sent (cs ++ ds) out₀ out' n'
sent_then {cs} ds {out₀} s room e f = record {
  count = omega (arith, e, s.count, length-append (layouts cs) (layouts ds), ap length (layouts-append cs ds));
  bytes =
      then_over 0 out₀ (layouts cs) (layouts ds) s.bytes f (omega (arith, s.count)) (omega (arith, s.count, room))
      ∙ ap (λ (l : List ℕ). over 0 l out₀) (sym (layouts-append cs ds));
}

listed-room : (salt : ℕ) (ids hs : List ℕ) → length ids ≤ 4096 → length hs ≤ 4096 → length (layouts (inquiries_of salt ids ++ offers_of hs)) ≤ 294940
listed-room salt ids hs h k =
    omega (
      arith,
      ap length (layouts-append (inquiries_of salt ids) (offers_of hs)),
      length-append (layouts (inquiries_of salt ids)) (layouts (offers_of hs)),
      inquiries_room salt ids h,
      offers-room hs k,
    )

pub offered-few : (table ours : List ℕ) → length ours ≤ 4096 → length (hashes_at (hashes_of table) (ids_of first_eight table) ours) ≤ 4096
offered-few table ours h = rw (length-map ours (λ x. get_or (hashes_of table) (position (ids_of first_eight table) x) 0)) h

pub told-room : (salt : ℕ) (table ours theirs : List ℕ) → length ours ≤ 4096 → length theirs ≤ 4096
    → length (layouts (inquiries_of salt theirs ++ offers_of (hashes_at (hashes_of table) (ids_of first_eight table) ours))) ≤ 294940
told-room salt table ours theirs h k = listed-room salt theirs (hashes_at (hashes_of table) (ids_of first_eight table) ours) k (offered-few table ours h)

-- ---- the hashes that are offered

at-short : (t : List ℕ) → Fit 512 t → (i : ℕ) → get_or t i 0 < 2 ^ 512
at-short t short i = go (ltb i (length t)) refl
  where
    go : (b : Bool) → ltb i (length t) ≡ b → get_or t i 0 < 2 ^ 512
    go true e = short (get_or t i 0) (elem_at t i (ltb-true i (length t) e))
    go false e = rw (get_or-eq_default t 0 (ltb-false i (length t) e)) (pow_pos 512)

hashes-at-short : (t ts : List ℕ) → Fit 512 t → (xs : List ℕ) → Fit 512 (hashes_at t ts xs)
hashes-at-short t ts short [] h e = absurd (clash e (elem-nil h))
hashes-at-short t ts short (x ∷ xs) h e =
    elem_cases (λ (v : ℕ). v < 2 ^ 512) h (get_or t (position ts x) 0) (hashes_at t ts xs) e (at-short t short (position ts x)) (hashes-at-short t ts short xs h)

-- gathered in bytes, they are read again
pub gathered-back : (table ours bytes₀ : List ℕ) {bytes : List ℕ} → 64 * length ours ≤ length bytes₀
    → bytes ≡ over 0 (packed 512 (hashes_at (hashes_of table) (ids_of first_eight table) ours)) bytes₀
    → hashes_of (take (64 * length ours) bytes) ≡ hashes_at (hashes_of table) (ids_of first_eight table) ours
gathered-back table ours bytes₀ room f =
    let hs = hashes_at (hashes_of table) (ids_of first_eight table) ours in
    let count : length hs ≡ length ours = length-map ours (λ x. get_or (hashes_of table) (position (ids_of first_eight table) x) 0) in
    ap₂ (λ (n : ℕ) (l : List ℕ). hashes_of (take (64 * n) l)) (sym count) f
    ∙ hashes-written hs bytes₀ (hashes-at-short (hashes_of table) (ids_of first_eight table) (hashes-fit table) ours) (omega (arith, count, room))

-- ---- the checksum of the table alone

none-met : (t fs : List ℕ) → check_of t (hashes_of []) fs ≡ foldr bit_xor 0 t
unfolding check_of marked hashes_of tabulated
none-met t fs = xor_zero_r (foldr bit_xor 0 t)

pub table-check : (table fs check : List ℕ) → check ≡ packed 512 (check_of (hashes_of table) (hashes_of []) fs ∷ []) → joined 8 (take 64 check) ≡ foldr bit_xor 0 (hashes_of table)
table-check table fs check e =
    let x = check_of (hashes_of table) (hashes_of []) fs in
    sum_number x check (bytes-sum x check e (check-short table [] fs)) ∙ none-met (hashes_of table) fs

pub nothing_known : is_table first_eight [] ≡ true
unfolding is_table hashes_of ids_of tabulated distinct
nothing_known = refl

-- ---- the turn

module _ (N : Numbers) (table : List ℕ) (size salt : ℕ) (ours theirs M I out : List ℕ) where
  abbrev listed : List Content
  listed = inquiries_of salt theirs ++ offers_of (hashes_at (hashes_of table) (ids_of first_eight table) ours)

  abbrev ending : Bool → List Content
  ending none = cond none (done (foldr bit_xor 0 (hashes_of table)) ∷ []) []

  module _ {r : Answer} {M' I' out' : List ℕ} {n : ℕ} (marked : M' ≡ mark_all (ids_of first_eight table) ours M) (inserted : I' ≡ inserted_all 0 theirs I) where
    opened : (none : Bool) {k : ℕ} → eqb (length theirs) 0 ≡ none → k ≡ length theirs → Sent (listed ++ ending none) out out' n
        → r ≡ answered 0 n 0 (opened_numbers N size salt (cond none 1 0) k) → open_turn' r M' I' out' ≡ open_turn N table size salt ours theirs M I out
    unfolding open_turn
    opened none {k} e f s is = λ i. open_turn' (answer i) (marked i) (inserted i) (written i)
      where
        all : List Content
        all = inquiries_of salt theirs ++ (offers_of (hashes_at (hashes_of table) (ids_of first_eight table) ours) ++ ending (eqb (length theirs) 0))

        said : listed ++ ending none ≡ all
        said =
            append_assoc (inquiries_of salt theirs) (offers_of (hashes_at (hashes_of table) (ids_of first_eight table) ours)) (ending none)
            ∙ ap (λ (b : Bool). inquiries_of salt theirs ++ (offers_of (hashes_at (hashes_of table) (ids_of first_eight table) ours) ++ ending b)) (sym e)

        count : n ≡ length (layouts all)
        count = s.count ∙ ap (λ (cs : List Content). length (layouts cs)) said

        written : out' ≡ over 0 (layouts all) out
        written = s.bytes ∙ ap (λ (cs : List Content). over 0 (layouts cs) out) said

        answer : r ≡ answered 0 (length (layouts all)) 0 (opened_numbers N size salt (cond (eqb (length theirs) 0) 1 0) (length theirs))
        answer = is ∙ λ i. answered 0 (count i) 0 (opened_numbers N size salt (cond (sym e i) 1 0) (f i))

    pub opened-none : 0 ≡ length theirs → Sent (listed ++ done (foldr bit_xor 0 (hashes_of table)) ∷ []) out out' n → r ≡ answered 0 n 0 (opened_numbers N size salt 1 0)
        → open_turn' r M' I' out' ≡ open_turn N table size salt ours theirs M I out
    opened-none e s is = opened true (eq-eqb (length theirs) 0 (sym e)) e s is

    pub opened_some : {k : ℕ} → k ≡ length theirs → (k ≡ 0 → ⊥) → Sent listed out out' n → r ≡ answered 0 n 0 (opened_numbers N size salt 0 k)
        → open_turn' r M' I' out' ≡ open_turn N table size salt ours theirs M I out
    opened_some e ne s is =
        opened false (ne_eqb (length theirs) 0 (λ q. ne (e ∙ q))) e (subst (λ (cs : List Content). Sent cs out out' n) (sym (append-nil listed)) s) is
