-- An OFFER's turn is what the session says of it: the answer and every slice. Assumes nothing.
use mathlib.Core.Path.{◌≡◌, refl, sym, ap, ap₂, ◌∙◌}
use mathlib.Core.Bool.{Bool, true, false, not, ◌||◌, cond}
use mathlib.Core.List.{List, [], ◌∷◌, ◌++◌, map}
use Prim.Native.Nat.{ℕ, ◌+◌, ◌*◌, ◌≤◌}
use native.Mathlib.Omega.{arith}
use lib.Dec.{ltb, leb}
use lib.ListN.{length, take}
use Rattle.bucket.specs.Lists.{elem, over}
use Rattle.filter.specs.declared.answers.Refusal.TheVariants.{OutOfTurn, Breach, Limit}
use Rattle.filter.specs.Answers.{number_of, first_of}
use Rattle.filter.specs.Lists.{ascending}
use Rattle.filter.specs.Sets.{all, once, count, implies}
use Rattle.filter.specs.Table.{first_eight, hashes_of}
use Rattle.filter.proofs.SetLaws.{◌⊆◌, and_r}
use Rattle.filter.proofs.ListLaws.{news_in}
use Rattle.filter.proofs.TableLaws.{ids-ascending}
use Rattle.message.specs.Layout.{offer}
use Rattle.message.specs.Writing.{layouts, demands_of}
use Rattle.ledger.specs.Grid.{ACTIVE, entry}
use Rattle.ledger.specs.Session.{Ledger, «in», ids_of, held, concerned, new, allowed, tests, refusal, change}
use Rattle.ledger.specs.Calls.{Given, Left, left, table_of, session_of, step_on}
use Rattle.ledger.proofs.GridLaws.{admitted_other}
use Rattle.ledger.proofs.BelowLaws.{Fit}
use Rattle.session.specs.Moves.{News, new_all, extra, stored, store_all}
use Rattle.form.specs.Answers.{aborted, changed}
use Rattle.session.specs.Turns.{OfferTurn, offer_turn', offer_turn}
use Rattle.ledger.proofs.Sound.{Sound}
use Rattle.ledger.proofs.GivenLaws.{given-table, given-known, given-books, given-few, given-demanded, given-inquired}
use Rattle.session.proofs.TurnLaws.{session_in, ledger_in, leaves, refusal_in, change_in, sent_only, given-done, given-long, halted_tie, change_tie}
use Rattle.session.proofs.OfferNews.{new-fine, new-hashes}
use Rattle.session.proofs.OfferCount.{new_full, new-room}
use Rattle.session.proofs.OfferMemory.{demanded-long, offer-records, offer-marks}

module _ (G : Given) (s : Sound G) (timely : entry G.numbers.state 3 ≡ true) (hs : List ℕ) where
  abbrev t : List ℕ
  t = table_of G

  abbrev L : Ledger
  L = ledger_in G

  abbrev rest : List ℕ
  rest = new first_eight t L hs

  abbrev right : Bool
  right = allowed first_eight t (session_in G) rest

  abbrev fits : Bool
  fits = leb (count (concerned first_eight t L ++ ids_of first_eight rest)) 4096

  -- ---- what the session says

  offer-refusal : {a b : Bool} → right ≡ a → fits ≡ b → refusal_in G (offer hs) ≡ number_of (first_of ((Breach, a) ∷ (Limit, b) ∷ []))
  unfolding refusal tests session_of
  offer-refusal e f = λ i.
      number_of (first_of ((OutOfTurn, (admitted_other (session_in G) (offer hs) refl ∙ timely) i) ∷ (Breach, e i) ∷ (Limit, f i) ∷ []))

  -- ---- what the turn computes

  abbrev refused_with : ℕ → OfferTurn
  refused_with n = offer_turn' (aborted n G.numbers) (stored G.records G.marks) G.out

  abbrev granting : List ℕ → OfferTurn
  granting q =
      offer_turn'
      (changed G.numbers G.numbers.state G.numbers.done (G.numbers.demanded + length q) (length (layouts (demands_of q))) 0)
      (store_all G.numbers.demanded q (stored G.records G.marks)) (over 0 (layouts (demands_of q)) G.out)

  -- no two share an ID where the OFFER is allowed
  no_shared : right ≡ true → once (ids_of first_eight (held first_eight t L ++ L.demanded)) (ids_of first_eight rest) ≡ true
  unfolding allowed
  no_shared e = and_r (implies («in» (session_in G) ACTIVE) (all (λ h. elem (first_eight h) L.inquired) rest)) _ e

  table-ids : ascending (map first_eight t) ≡ true
  unfolding Rattle.filter.specs.Table.ids_of
  table-ids = ids-ascending G.table (given-table G s)

  demanded-ids : ascending (map first_eight L.demanded) ≡ true
  unfolding Rattle.filter.specs.Table.ids_of
  demanded-ids = ap (λ (K : List ℕ). ascending (map first_eight K)) (given-demanded G s) ∙ ids-ascending (take (64 * G.numbers.demanded) G.records) (given-known G s)

  abbrev w : News
  w = new_all first_eight t L.demanded L.inquired («in» (session_in G) ACTIVE) hs

  fine_is : w.fine ≡ right
  fine_is = new-fine first_eight t (session_in G) (given-books G s) table-ids demanded-ids (given-few G s).2 (omega (arith, given-long G s, given-few G s)) hs

  hashes_are : w.fine ≡ true → w.hashes ≡ rest
  hashes_are = new-hashes first_eight t (session_in G) (given-books G s) table-ids demanded-ids (given-few G s).2 (omega (arith, given-long G s, given-few G s)) hs

  module _ (concernedCount : ℕ) (is : concernedCount ≡ count (concerned first_eight t L)) where
    full_is : right ≡ true → ltb 4096 (concernedCount + extra first_eight L.inquired rest) || ltb 4096 (G.numbers.demanded + length rest) ≡ not fits
    full_is e =
        ap₂ (λ (c n : ℕ). ltb 4096 (c + extra first_eight L.inquired rest) || ltb 4096 (n + length rest)) is (sym (given-long G s))
        ∙ new_full first_eight t L (given-books G s) rest (no_shared e)

    abbrev inner : List ℕ → OfferTurn
    inner q = cond (ltb 4096 (concernedCount + extra first_eight L.inquired q) || ltb 4096 (G.numbers.demanded + length q)) (refused_with 10) (granting q)

    turn_is : (a : Bool) → right ≡ a → offer_turn G.numbers t L.demanded L.inquired hs concernedCount G.records G.marks G.out
        ≡ cond a (cond (not fits) (refused_with 10) (granting rest)) (refused_with 7)
    unfolding offer_turn session_of
    turn_is false e = ap (λ (f : Bool). cond f (inner w.hashes) (refused_with 7)) (fine_is ∙ e)
    turn_is true e =
        ap (λ (f : Bool). cond f (inner w.hashes) (refused_with 7)) (fine_is ∙ e)
        ∙ ap inner (hashes_are (fine_is ∙ e))
        ∙ ap (λ (b : Bool). cond b (refused_with 10) (granting rest)) (full_is e)

  -- ---- both ways

  abbrev leaves_of : OfferTurn → Left
  leaves_of x = leaves G x.answer x.stored.records x.stored.marks x.out

  rest_in : rest ⊆ hs
  unfolding new
  rest_in = news_in (held first_eight t L ++ L.demanded) hs

  granted : Fit 512 hs → right ≡ true → fits ≡ true → refusal_in G (offer hs) ≡ 0 → leaves_of (granting rest) ≡ step_on first_eight (offer hs) G
  unfolding change session_of
  granted short e f none =
      change_tie G s (offer hs) refl (change_in G (offer hs)) G.numbers.done (G.numbers.demanded + length rest)
      (granting rest).stored.records (granting rest).stored.marks (granting rest).out
      (record {
        inquired = refl;
        went = given-done G s;
        count = demanded-long G s rest new-short (no_shared e) few;
        records = sym (offer-records G s rest new-short (no_shared e) few);
        marks = sym (offer-marks G s rest new-short (no_shared e) few);
        out = sent_only (demands_of rest) G.out;
      })
      none refl
    where
      new-short : Fit 512 rest
      new-short h k = short h (rest_in h k)

      few : G.numbers.demanded + length rest ≤ 4096
      few = rw (given-long G s) at (new-room first_eight t L (given-books G s) rest (no_shared e) f)

  same_ways : Fit 512 hs → (a : Bool) → right ≡ a → (b : Bool) → fits ≡ b
      → leaves_of (cond a (cond (not b) (refused_with 10) (granting rest)) (refused_with 7)) ≡ step_on first_eight (offer hs) G
  same_ways short false e b f = halted_tie G s (offer hs) 7 refl refl (offer-refusal e f)
  same_ways short true e false f = halted_tie G s (offer hs) 10 refl refl (offer-refusal e f)
  same_ways short true e true f = granted short e f (offer-refusal e f)

pub offer_tie : (G : Given) (s : Sound G) (timely : entry G.numbers.state 3 ≡ true) (hs : List ℕ) → Fit 512 hs → (concernedCount : ℕ)
    → concernedCount ≡ count (concerned first_eight (table_of G) (session_of first_eight G).ledger)
    → let x = offer_turn G.numbers (table_of G) (hashes_of (take (64 * G.numbers.demanded) G.records)) (take G.numbers.inquired G.inquired) hs concernedCount G.records G.marks G.out in
    left x.answer x.stored.records x.stored.marks G.inquired G.columns G.ours G.theirs x.out ≡ step_on first_eight (offer hs) G
offer_tie G s timely hs short n is =
    ap₂ (λ (K I : List ℕ). leaves_of G s timely hs (offer_turn G.numbers (table_of G) K I hs n G.records G.marks G.out))
    (sym (given-demanded G s)) (sym (given-inquired G s))
    ∙ ap (leaves_of G s timely hs) (turn_is G s timely hs n is (right G s timely hs) refl)
    ∙ same_ways G s timely hs short (right G s timely hs) refl (fits G s timely hs) refl
