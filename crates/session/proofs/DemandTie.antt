-- DEMAND: what the walk over its hashes does to the marks is what the session serves, and its turn is the step. Assumes nothing.
use mathlib.Core.Path.{◌≡◌, refl, sym, ap, ap₂, subst, ◌∙◌}
use mathlib.Core.Bool.{Bool, true, false, not, ◌&&◌, cond}
use mathlib.Core.List.{List, [], ◌∷◌}
use Prim.Native.Nat.{ℕ, ◌+◌, ◌*◌, ◌≤◌}
use lib.ListN.{length, get_or, set, take}
use borrow.Author.Tests.{not-true}
use Rattle.bucket.specs.Digits.{packed}
use Rattle.bucket.specs.Lists.{elem, over}
use Rattle.bucket.proofs.ListLaws.{elem_cases}
use Rattle.filter.specs.declared.answers.Refusal.TheVariants.{OutOfTurn, Breach}
use Rattle.filter.specs.Answers.{number_of, first_of}
use Rattle.filter.specs.Table.{first_eight, hashes_of}
use Rattle.message.specs.Layout.{demand}
use Rattle.message.specs.Writing.{layouts}
use Rattle.ledger.specs.declared.numbers.Numbers.{Numbers}
use Rattle.filter.specs.Sets.{insert, ◌∪◌, all, once}
use Rattle.ledger.specs.Grid.{entry}
use Rattle.ledger.specs.Session.{Ledger, serving, tests, refusal, change}
use Rattle.ledger.specs.Calls.{Given, Left, left, table_of, session_of, step_on}
use Rattle.session.specs.Moves.{place_of_hash, go_all, Walk, walk, is_fine, serve_at, serve_one, serve_all}
use Rattle.form.specs.Answers.{aborted, changed}
use Rattle.session.specs.Turns.{MarkTurn, mark_turn, demand_turn}
use Rattle.filter.proofs.SetLaws.{◌∈◌, clash, and_l, and_r, not_in_nil, elem-cons, elem-insert}
use Rattle.filter.proofs.ListLaws.{once-same}
use Rattle.ledger.proofs.GridLaws.{admitted_other}
use Rattle.ledger.proofs.KeptLaws.{books-serving}
use Rattle.ledger.proofs.ActLaws.{serving-cons}
use Rattle.ledger.proofs.Sound.{Sound}
use Rattle.ledger.proofs.GivenLaws.{given-demanded, same-records}
use Rattle.ledger.proofs.LaidLaws.{laid_marks}
use Rattle.session.proofs.PlaceTie.{Ordered, serve_test, serve_set}
use Rattle.session.proofs.TurnLaws.{session_in, ledger_in, demanded_in, leaves, refusal_in, change_in, given_ordered, given-done, given-long, front-room, front-marks, marks-back, halted_tie, change_tie}

-- "hashes offered and not demanded before"
abbrev servable : Ledger → ℕ → Bool
servable L h = elem h L.offered && not (elem h L.served)

abbrev are_servable : Ledger → List ℕ → Bool
are_servable L hs = all (λ x. elem x L.offered) hs && once L.served hs

sort_out : (a b c d : Bool) → (a && b) && (c && d) ≡ (a && c) && (b && d)
sort_out true b true d = refl
sort_out true true false d = refl
sort_out true false false d = refl
sort_out false b c d = refl

-- the first, and the others when it is served
first-servable : (L : Ledger) (h : ℕ) (hs : List ℕ) → are_servable L (h ∷ hs) ≡ servable L h && are_servable (serving (h ∷ []) L) hs
unfolding all once ◌∪◌
first-servable L h hs =
    sort_out (elem h L.offered) (all (λ x. elem x L.offered) hs) (not (elem h L.served)) (once (h ∷ L.served) hs)
    ∙ ap (λ (b : Bool). servable L h && (all (λ x. elem x L.offered) hs && b))
    (once-same (h ∷ L.served) (insert h L.served) hs (λ y. elem-cons y h L.served ∙ sym (elem-insert y h L.served)))

module _ (derive : ℕ → ℕ) (t M : List ℕ) (room : 8192 ≤ length M) where
  -- ---- one hash

  module _ (L : Ledger) (o : Ordered derive t L) (h : ℕ) where
    abbrev place : ℕ
    place = place_of_hash derive t L.demanded h

    by_test : (b : Bool) → servable L h ≡ b
        → serve_one derive t L.demanded h (walk true (laid_marks derive t L M) [])
        ≡ cond b (walk true (set (laid_marks derive t L M) place (get_or (laid_marks derive t L M) place 0 + 4)) []) (walk false (laid_marks derive t L M) [])
    unfolding serve_one serve_at
    by_test b e =
        ap (λ (b : Bool).
        cond b (walk true (set (laid_marks derive t L M) place (get_or (laid_marks derive t L M) place 0 + 4)) []) (walk false (laid_marks derive t L M) []))
        (serve_test derive t L o M room h ∙ e)

    module _ (e : servable L h ≡ true) where
      offered : h ∈ L.offered
      offered = and_l (elem h L.offered) (not (elem h L.served)) e

      serve_new : serve_one derive t L.demanded h (walk true (laid_marks derive t L M) []) ≡ walk true (laid_marks derive t (serving (h ∷ []) L) M) []
      serve_new =
          by_test true e
          ∙ ap (λ (ms : List ℕ). walk true ms [])
          (serve_set derive t L o M room h offered (not-true (elem h L.served) (and_r (elem h L.offered) (not (elem h L.served)) e)))

      ordered_serving : Ordered derive t (serving (h ∷ []) L)
      ordered_serving = record {
        books =
            books-serving derive t (h ∷ []) L (λ y k. elem_cases (λ (z : ℕ). z ∈ L.offered) y h [] k offered (λ q. absurd (not_in_nil y q))) o.books;
        asc = o.asc;
        ids = o.ids;
        known_ids = o.known_ids;
        few = o.few;
        known_few = o.known_few;
      }

  -- ---- all

  record Served (L : Ledger) (hs : List ℕ) (w : Walk) : Type 0 where
    fine : w.fine ≡ are_servable L hs
    laid : are_servable L hs ≡ true → w.marks ≡ laid_marks derive t (serving hs L) M

  abbrev walk_over : Ledger → List ℕ → Walk
  walk_over L hs = go_all is_fine (serve_one derive t L.demanded) hs (walk true (laid_marks derive t L M) [])

  -- the first of a list of hashes, by its test
  serve_first : (L : Ledger) (o : Ordered derive t L) (h : ℕ) (hs : List ℕ)
      → (servable L h ≡ true → Served (serving (h ∷ []) L) hs (walk_over (serving (h ∷ []) L) hs)) → Served L (h ∷ hs) (walk_over L (h ∷ hs))
  unfolding go_all
  serve_first L o h hs next = go (servable L h) refl
    where
      rest : Walk → Walk
      rest w = cond (is_fine w) (go_all is_fine (serve_one derive t L.demanded) hs w) w

      start : Walk
      start = serve_one derive t L.demanded h (walk true (laid_marks derive t L M) [])

      go : (b : Bool) → servable L h ≡ b → Served L (h ∷ hs) (rest start)
      go true e = subst (λ (w : Walk). Served L (h ∷ hs) (rest w)) (sym (serve_new L o h e)) (record {
        fine = (next e).fine ∙ sym one;
        laid = λ k. (next e).laid (sym one ∙ k) ∙ ap (λ (K : Ledger). laid_marks derive t K M) (sym (serving-cons derive t L o.books h hs));
      })
        where
          one : are_servable L (h ∷ hs) ≡ are_servable (serving (h ∷ []) L) hs
          one = first-servable L h hs ∙ ap (λ (b : Bool). b && are_servable (serving (h ∷ []) L) hs) e
      go false e = subst (λ (w : Walk). Served L (h ∷ hs) (rest w)) (sym (by_test L o h false e)) (record { fine = sym bad; laid = λ k. absurd (clash k bad) })
        where
          bad : are_servable L (h ∷ hs) ≡ false
          bad = first-servable L h hs ∙ ap (λ (b : Bool). b && are_servable (serving (h ∷ []) L) hs) e

  serve_walk : (hs : List ℕ) (L : Ledger) → Ordered derive t L → Served L hs (walk_over L hs)
  unfolding go_all all once ◌∪◌
  serve_walk [] L o = record { fine = refl; laid = λ k. refl }
  serve_walk (h ∷ hs) L o = serve_first L o h hs (λ e. serve_walk hs (serving (h ∷ []) L) (ordered_serving L o h e))

-- ---- the turn

module _ (G : Given) (s : Sound G) (timely : entry G.numbers.state 4 ≡ true) (hs : List ℕ) where
  abbrev N : Numbers
  N = G.numbers

  abbrev L : Ledger
  L = ledger_in G

  abbrev leaves_of : MarkTurn → Left
  leaves_of x = leaves G x.answer G.records x.marks x.out

  abbrev walked : Walk
  walked = serve_all first_eight (table_of G) (demanded_in G) hs (take 8192 G.marks)

  served : Served first_eight (table_of G) (take 8192 G.marks) (front-room G s) L hs walked
  served =
      subst (Served first_eight (table_of G) (take 8192 G.marks) (front-room G s) L hs)
      (ap₂ (λ (k m : List ℕ). serve_all first_eight (table_of G) k hs m) (given-demanded G s) (front-marks G s))
      (serve_walk first_eight (table_of G) (take 8192 G.marks) (front-room G s) hs L (given_ordered G s))

  demand-refusal : {b : Bool} → walked.fine ≡ b → refusal_in G (demand hs) ≡ number_of (first_of ((Breach, b) ∷ []))
  unfolding refusal tests session_of
  demand-refusal e = λ i.
      number_of (first_of ((OutOfTurn, (admitted_other (session_in G) (demand hs) refl ∙ timely) i) ∷ (Breach, (sym served.fine ∙ e) i) ∷ []))

  abbrev taken : MarkTurn
  taken = mark_turn (changed N N.state N.done N.demanded 0 (length hs)) (over 0 walked.marks G.marks) (over 0 (packed 512 hs) G.out)

  acted : walked.fine ≡ true → refusal_in G (demand hs) ≡ 0 → leaves_of taken ≡ step_on first_eight (demand hs) G
  unfolding change session_of layouts
  acted g is =
      change_tie G s (demand hs) refl (change_in G (demand hs)) N.done N.demanded G.records (over 0 walked.marks G.marks) (over 0 (packed 512 hs) G.out)
      (record {
        inquired = refl;
        went = given-done G s;
        count = given-long G s;
        records = same-records G s;
        marks = sym (ap (λ (ms : List ℕ). over 0 ms G.marks) (served.laid (sym served.fine ∙ g)) ∙ marks-back G s (serving hs L) refl);
        out = refl;
      })
      is refl

  by_cases : (b : Bool) → walked.fine ≡ b → leaves_of (cond b taken (mark_turn (aborted 7 N) G.marks G.out)) ≡ step_on first_eight (demand hs) G
  by_cases false e = halted_tie G s (demand hs) 7 refl refl (demand-refusal e)
  by_cases true e = acted e (demand-refusal e)

  pub demand-tie :
      let x = demand_turn N (table_of G) (hashes_of (take (64 * N.demanded) G.records)) hs G.marks G.out in
      left x.answer G.records x.marks G.inquired G.columns G.ours G.theirs x.out ≡ step_on first_eight (demand hs) G
  unfolding demand_turn
  demand-tie = by_cases walked.fine refl
