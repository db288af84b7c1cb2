-- INQUIRY: what the walk over its IDs does to the marks is what the session asks and offers, and its turn is the step. Assumes nothing.
use mathlib.Core.Path.{◌≡◌, refl, sym, ap, ap₂, subst, ◌∙◌}
use mathlib.Core.Logic.{inl}
use mathlib.Core.Bool.{Bool, true, false, not, ◌&&◌, ◌||◌, cond}
use mathlib.Core.List.{List, [], ◌∷◌, ◌++◌, map, append_assoc, append-nil}
use Prim.Native.Nat.{ℕ, ◌+◌, ◌*◌, ◌/◌, ◌≤◌, ◌<◌}
use native.Mathlib.Omega.{arith}
use lib.Dec.{eqb, leb}
use lib.ListN.{length, get_or, set, take, length-append}
use borrow.Author.Tests.{lt-leb}
use Rattle.bucket.specs.Lists.{elem, over}
use Rattle.filter.specs.declared.answers.Refusal.TheVariants.{OutOfTurn, Breach}
use Rattle.filter.specs.Answers.{number_of, first_of}
use Rattle.filter.specs.Table.{first_eight, hashes_of}
use Rattle.message.specs.Layout.{Content, inquiry}
use Rattle.message.specs.Writing.{layouts, offers_of}
use Rattle.ledger.specs.declared.numbers.Numbers.{Numbers}
use Rattle.ledger.specs.Grid.{entry}
use Rattle.ledger.specs.Calls.{Given, Left, left, table_of, session_of, step_on}
use Rattle.form.specs.Answers.{aborted, changed}
use Rattle.session.specs.Turns.{MarkTurn, mark_turn, inquiry_turn}
use Rattle.ledger.proofs.Sound.{Sound}
use Rattle.ledger.proofs.GivenLaws.{given-demanded, same-records}
use Rattle.session.proofs.TurnLaws.{session_in, ledger_in, demanded_in, leaves, refusal_in, change_in, sent_only, given_ordered, given-done, given-long, front-room, front-marks, marks-back, halted_tie, change_tie}
use Rattle.bucket.proofs.ListLaws.{distinct-count, elem_cases}
use Rattle.filter.specs.Lists.{select}
use Rattle.filter.specs.Sets.{insert, ◌∪◌, once}
use Rattle.ledger.specs.Session.{Ledger, held, held_ids, hash_of, concerned, asks, hashes_for, asking, tests, refusal, change}
use Rattle.ledger.specs.Memory.{is_asked}
use Rattle.session.specs.Moves.{place_of, hash_at_place, go_all, Walk, walk, is_fine, ask_at, ask_one, ask_all}
use Rattle.filter.proofs.SetLaws.{◌∈◌, ◌⊆◌, clash, not_in_nil, in_∪-l, elem-cons, elem-insert, asc-distinct}
use Rattle.filter.proofs.ListLaws.{once-same}
use Rattle.ledger.proofs.HeldLaws.{in_concerned}
use Rattle.ledger.proofs.GridLaws.{admitted_other}
use Rattle.ledger.proofs.KeptLaws.{books-asking}
use Rattle.ledger.proofs.ActLaws.{asking-cons}
use Rattle.ledger.proofs.LaidLaws.{laid_marks}
use Rattle.session.proofs.PlaceTie.{Ordered, held_at, hash-there, asked-at, ask_set}

module _ (derive : ℕ → ℕ) (t M : List ℕ) (room : 8192 ≤ length M) where
  -- ---- one ID

  module _ (L : Ledger) (o : Ordered derive t L) (x : ℕ) (hs : List ℕ) where
    abbrev place : ℕ
    place = place_of (map derive t) (map derive L.demanded) x

    abbrev before : Walk
    before = walk true (laid_marks derive t L M) hs

    by_tests : (a b : Bool) → elem x (held_ids derive t L) ≡ a → is_asked (get_or (laid_marks derive t L M) place 0) || leb 4096 (length hs) ≡ b
        → ask_one derive t L.demanded x before
        ≡ cond a
        (cond b (walk false (laid_marks derive t L M) hs)
        (walk true (set (laid_marks derive t L M) place (get_or (laid_marks derive t L M) place 0 / 4 * 4 + 3)) (hs ++ hash_at_place t L.demanded place ∷ [])))
        before
    unfolding ask_one ask_at
    by_tests a b e f =
        ap₂ (λ (a b : Bool).
        cond a
        (cond b (walk false (laid_marks derive t L M) hs)
        (walk true (set (laid_marks derive t L M) place (get_or (laid_marks derive t L M) place 0 / 4 * 4 + 3)) (hs ++ hash_at_place t L.demanded place ∷ [])))
        before)
        (held_at derive t L o M room x ∙ e) f

    -- others are ignored
    ask_ignored : elem x (held_ids derive t L) ≡ false → ask_one derive t L.demanded x before ≡ before
    ask_ignored e = by_tests false _ e refl

    module _ (e : x ∈ held_ids derive t L) where
      ask_again : elem x L.asked ≡ true → ask_one derive t L.demanded x before ≡ walk false (laid_marks derive t L M) hs
      ask_again k = by_tests true true e (ap (λ (b : Bool). b || leb 4096 (length hs)) (asked-at derive t L o M room x e ∙ k))

      ask_new : elem x L.asked ≡ false → length hs < 4096
          → ask_one derive t L.demanded x before
          ≡ walk true (laid_marks derive t (asking derive t (x ∷ []) L) M) (hs ++ hash_of derive (held derive t L) x ∷ [])
      ask_new k h =
          by_tests true false e (ap₂ ◌||◌ (asked-at derive t L o M room x e ∙ k) (lt-leb 4096 (length hs) h))
          ∙ ap₂ (λ (ms : List ℕ) (g : ℕ). walk true ms (hs ++ g ∷ [])) (ask_set derive t L o M room x e) (hash-there derive t L o M room x e)

      alone : (x ∷ []) ⊆ held_ids derive t L
      alone y k = elem_cases (λ (z : ℕ). z ∈ held_ids derive t L) y x [] k e (λ q. absurd (not_in_nil y q))

      ordered_asking : Ordered derive t (asking derive t (x ∷ []) L)
      ordered_asking = record {
        books = books-asking derive t (x ∷ []) L alone o.books;
        asc = o.asc;
        ids = o.ids;
        known_ids = o.known_ids;
        few = o.few;
        known_few = o.known_few;
      }

      -- there are at most 4,096 to be asked
      room-asked : elem x L.asked ≡ false → length L.asked < 4096
      room-asked k =
          omega (
            arith,
            o.books.few,
            distinct-count (x ∷ L.asked) (concerned derive t L ∪ []) (k, asc-distinct L.asked o.books.asked_asc)
                (λ y m. in_∪-l y (concerned derive t L) [] (in_concerned derive t L y (inl (elem_cases (λ (z : ℕ). z ∈ held_ids derive t L) y x L.asked m e (o.books.asked_held y))))),
          )

      one_more : elem x L.asked ≡ false → length L.asked < length (insert x L.asked)
      one_more k =
          distinct-count (x ∷ L.asked) (insert x L.asked) (k, asc-distinct L.asked o.books.asked_asc)
          (λ y m. elem-insert y x L.asked ∙ sym (elem-cons y x L.asked) ∙ m)

  -- ---- all

  -- of IDs that are held, and the hashes gathered before them
  record Asked (L : Ledger) (hs ys : List ℕ) (w : Walk) : Type 0 where
    fine : w.fine ≡ once L.asked ys
    laid : once L.asked ys ≡ true → w.marks ≡ laid_marks derive t (asking derive t ys L) M
    gathered : once L.asked ys ≡ true → w.hashes ≡ hs ++ hashes_for derive t L ys

  asked-none : (L : Ledger) (hs : List ℕ) → Asked L hs [] (walk true (laid_marks derive t L M) hs)
  unfolding once ◌∪◌ hashes_for
  asked-none L hs = record { fine = refl; laid = λ h. refl; gathered = λ h. sym (append-nil hs) }

  asked_bad : (L : Ledger) (hs ys : List ℕ) (x : ℕ) → elem x L.asked ≡ true → Asked L hs (x ∷ ys) (walk false (laid_marks derive t L M) hs)
  unfolding once
  asked_bad L hs ys x e = record { fine = sym bad; laid = λ h. absurd (clash h bad); gathered = λ h. absurd (clash h bad) }
    where
      bad : once L.asked (x ∷ ys) ≡ false
      bad = ap (λ (b : Bool). not b && once (x ∷ L.asked) ys) e

  module _ (L : Ledger) (o : Ordered derive t L) (hs ys : List ℕ) (x : ℕ) (new : elem x L.asked ≡ false) where
    once-next : once (asking derive t (x ∷ []) L).asked ys ≡ once L.asked (x ∷ ys)
    unfolding once ◌∪◌
    once-next =
        once-same (insert x L.asked) (x ∷ L.asked) ys (λ y. elem-insert y x L.asked ∙ sym (elem-cons y x L.asked))
        ∙ sym (ap (λ (b : Bool). not b && once (x ∷ L.asked) ys) new)

    asked-next : (w : Walk) → Asked (asking derive t (x ∷ []) L) (hs ++ hash_of derive (held derive t L) x ∷ []) ys w → Asked L hs (x ∷ ys) w
    unfolding hashes_for held
    asked-next w k = record {
      fine = k.fine ∙ once-next;
      laid = λ h. k.laid (once-next ∙ h) ∙ ap (λ (K : Ledger). laid_marks derive t K M) (sym (asking-cons derive t L o.books x ys));
      gathered = λ h. k.gathered (once-next ∙ h) ∙ append_assoc hs (hash_of derive (held derive t L) x ∷ []) (hashes_for derive t L ys);
    }

  -- the first of a list of IDs, by what it is
  module _ (L : Ledger) (o : Ordered derive t L) (hs : List ℕ) (h : length hs ≤ length L.asked) (x : ℕ) (xs : List ℕ) where
    abbrev rest : Walk → Walk
    rest w = go_all is_fine (ask_one derive t L.demanded) xs w

    ask_cons : (u : Walk) (ys : List ℕ) → ask_one derive t L.demanded x (walk true (laid_marks derive t L M) hs) ≡ u → asks derive t L (x ∷ xs) ≡ ys
        → Asked L hs ys (cond (is_fine u) (rest u) u)
        → Asked L hs (asks derive t L (x ∷ xs)) (go_all is_fine (ask_one derive t L.demanded) (x ∷ xs) (walk true (laid_marks derive t L M) hs))
    unfolding go_all
    ask_cons u ys e f k =
        subst (λ (l : List ℕ). Asked L hs l (cond (is_fine start) (rest start) start)) (sym f)
        (subst (λ (w : Walk). Asked L hs ys (cond (is_fine w) (rest w) w)) (sym e) k)
      where
        start : Walk
        start = ask_one derive t L.demanded x (walk true (laid_marks derive t L M) hs)

    asks_by : (b : Bool) → elem x (held_ids derive t L) ≡ b → asks derive t L (x ∷ xs) ≡ cond b (x ∷ asks derive t L xs) (asks derive t L xs)
    unfolding asks select
    asks_by b e = ap (λ (b : Bool). cond b (x ∷ asks derive t L xs) (asks derive t L xs)) e

    ask_first : Asked L hs (asks derive t L xs) (rest (walk true (laid_marks derive t L M) hs))
        → (x ∈ held_ids derive t L → elem x L.asked ≡ false
        → Asked (asking derive t (x ∷ []) L) (hs ++ hash_of derive (held derive t L) x ∷ []) (asks derive t L xs)
        (rest (walk true (laid_marks derive t (asking derive t (x ∷ []) L) M) (hs ++ hash_of derive (held derive t L) x ∷ []))))
        → Asked L hs (asks derive t L (x ∷ xs)) (go_all is_fine (ask_one derive t L.demanded) (x ∷ xs) (walk true (laid_marks derive t L M) hs))
    ask_first same next = go (elem x (held_ids derive t L)) refl (elem x L.asked) refl
      where
        go : (a : Bool) → elem x (held_ids derive t L) ≡ a → (b : Bool) → elem x L.asked ≡ b
            → Asked L hs (asks derive t L (x ∷ xs)) (go_all is_fine (ask_one derive t L.demanded) (x ∷ xs) (walk true (laid_marks derive t L M) hs))
        go false e b k = ask_cons (walk true (laid_marks derive t L M) hs) (asks derive t L xs) (ask_ignored L o x hs e) (asks_by false e) same
        go true e true k =
            ask_cons (walk false (laid_marks derive t L M) hs) (x ∷ asks derive t L xs) (ask_again L o x hs e k) (asks_by true e) (asked_bad L hs (asks derive t L xs) x k)
        go true e false k =
            ask_cons (walk true (laid_marks derive t (asking derive t (x ∷ []) L) M) (hs ++ hash_of derive (held derive t L) x ∷ [])) (x ∷ asks derive t L xs)
            (ask_new L o x hs e k (omega (arith, room-asked L o x hs e k))) (asks_by true e)
            (asked-next L o hs (asks derive t L xs) x k (rest (walk true (laid_marks derive t (asking derive t (x ∷ []) L) M) (hs ++ hash_of derive (held derive t L) x ∷ []))) (next e k))

  ask_walk : (xs : List ℕ) (L : Ledger) → Ordered derive t L → (hs : List ℕ) → length hs ≤ length L.asked
      → Asked L hs (asks derive t L xs) (go_all is_fine (ask_one derive t L.demanded) xs (walk true (laid_marks derive t L M) hs))
  unfolding go_all asks select held ◌∪◌
  ask_walk [] L o hs h = asked-none L hs
  ask_walk (x ∷ xs) L o hs h =
      ask_first L o hs h x xs (ask_walk xs L o hs h)
      (λ e k. ask_walk xs (asking derive t (x ∷ []) L) (ordered_asking L o x hs e) (hs ++ hash_of derive (held derive t L) x ∷ [])
      (omega (arith, length-append hs (hash_of derive (held derive t L) x ∷ []), one_more L o x hs e k)))

-- ---- the turn

module _ (G : Given) (s : Sound G) (timely : entry G.numbers.state 2 ≡ true) (salt : ℕ) (xs : List ℕ) where
  abbrev N : Numbers
  N = G.numbers

  abbrev L : Ledger
  L = ledger_in G

  abbrev found : List ℕ
  found = asks first_eight (table_of G) L xs

  abbrev leaves_of : MarkTurn → Left
  leaves_of x = leaves G x.answer G.records x.marks x.out

  abbrev walked : Walk
  walked = ask_all first_eight (table_of G) (demanded_in G) xs (take 8192 G.marks)

  asked : Asked first_eight (table_of G) (take 8192 G.marks) (front-room G s) L [] found walked
  asked =
      subst (Asked first_eight (table_of G) (take 8192 G.marks) (front-room G s) L [] found)
      (ap₂ (λ (k m : List ℕ). ask_all first_eight (table_of G) k xs m) (given-demanded G s) (front-marks G s))
      (ask_walk first_eight (table_of G) (take 8192 G.marks) (front-room G s) xs L (given_ordered G s) [] (omega arith))

  inquiry-refusal : {a b : Bool} → eqb salt N.salt ≡ a → walked.fine ≡ b → refusal_in G (inquiry salt xs) ≡ number_of (first_of ((Breach, a && b) ∷ []))
  unfolding refusal tests session_of
  inquiry-refusal e f = λ i.
      number_of (first_of ((OutOfTurn, (admitted_other (session_in G) (inquiry salt xs) refl ∙ timely) i) ∷ (Breach, e i && (sym asked.fine ∙ f) i) ∷ []))

  -- the turn of a good INQUIRY, of the hashes it offers
  abbrev taken : List ℕ → MarkTurn
  taken hs =
      let cs = offers_of hs in
      mark_turn (changed N N.state N.done N.demanded (length (layouts cs)) 0) (over 0 walked.marks G.marks) (over 0 (layouts cs) G.out)

  acted : walked.fine ≡ true → refusal_in G (inquiry salt xs) ≡ 0 → leaves_of (taken walked.hashes) ≡ step_on first_eight (inquiry salt xs) G
  unfolding change session_of
  acted g is =
      ap (λ (hs : List ℕ). leaves_of (taken hs)) (asked.gathered fine)
      ∙ change_tie G s (inquiry salt xs) refl (change_in G (inquiry salt xs)) N.done N.demanded G.records (over 0 walked.marks G.marks) (over 0 (layouts sent) G.out)
      (record {
        inquired = refl;
        went = given-done G s;
        count = given-long G s;
        records = same-records G s;
        marks = sym (ap (λ (ms : List ℕ). over 0 ms G.marks) (asked.laid fine) ∙ marks-back G s (asking first_eight (table_of G) found L) refl);
        out = sent_only sent G.out;
      })
      is refl
    where
      fine : once L.asked found ≡ true
      fine = sym asked.fine ∙ g

      sent : List Content
      sent = offers_of (hashes_for first_eight (table_of G) L found)

  abbrev stops : MarkTurn
  stops = mark_turn (aborted 7 N) G.marks G.out

  by_cases : (a b : Bool) → eqb salt N.salt ≡ a → walked.fine ≡ b
      → leaves_of (cond a (cond b (taken walked.hashes) stops) stops) ≡ step_on first_eight (inquiry salt xs) G
  by_cases false b e f = halted_tie G s (inquiry salt xs) 7 refl refl (inquiry-refusal e f)
  by_cases true false e f = halted_tie G s (inquiry salt xs) 7 refl refl (inquiry-refusal e f)
  by_cases true true e f = acted f (inquiry-refusal e f)

  pub inquiry-tie :
      let x = inquiry_turn N (table_of G) (hashes_of (take (64 * N.demanded) G.records)) salt xs G.marks G.out in
      left x.answer G.records x.marks G.inquired G.columns G.ours G.theirs x.out ≡ step_on first_eight (inquiry salt xs) G
  unfolding inquiry_turn
  inquiry-tie = by_cases (eqb salt N.salt) walked.fine refl refl
