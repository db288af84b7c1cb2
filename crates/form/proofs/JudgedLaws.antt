-- What `judge` answers is refusal 1's test, and of a good form the tally of the ledger. Assumes nothing.
--
--   judged_in G       what `judge` computes of what a step is given
--   judged-form      whether the form is good
--   judged_tally     a good form's tally
use mathlib.Core.Path.{◌≡◌, refl, sym, ap, ◌∙◌}
use mathlib.Core.Bool.{Bool, true, false, ◌&&◌, cond, and_assoc}
use Prim.Native.Nat.{◌≤◌}
use lib.Dec.{eqb, leb}
use Rattle.std.specs.Option.{is_some}
use Rattle.std.proofs.Common.{Option, Some, None}
use Rattle.filter.specs.Calls.{in_range, are_counts}
use Rattle.filter.specs.Sets.{implies}
use Rattle.filter.specs.Table.{first_eight, is_table}
use Rattle.filter.proofs.SetLaws.{and_l}
use Rattle.ledger.specs.Grid.{EXPECTING_LAST, is_state}
use Rattle.ledger.specs.Form.{good_numbers, idle}
use Rattle.ledger.specs.Calls.{Given, session_of, readable, counts_nothing, good_front, is_whole, good_back, good_form}
use Rattle.ledger.proofs.GivenLaws.{front-table, front-readable, readable-few}
use Rattle.form.specs.declared.tallying.Tally.{Tally}
use Rattle.form.specs.Tallies.{tally_of, tally_there, numbers_fit, front_by, judged_by}
use Rattle.form.proofs.FormTie.{tested_good, form_tie}
use Rattle.form.proofs.TallyLaws.{tally_given}

module _ (G : Given) where
  abbrev front : Bool
  front = front_by G.numbers G.table G.columns.counts

  abbrev pub judged_in : Option Tally
  judged_in = judged_by G.numbers G.table G.records G.marks G.inquired G.columns.counts

  regroup : (a b c d e f g h x : Bool)
      → (a && (b && (c && (d && (e && (f && (g && h))))))) && x ≡ (a && (b && (c && d))) && ((e && (f && g)) && (h && x))
  regroup a b c d e f g h x = simp and_assoc

  front_tie : front ≡ good_front first_eight G
  unfolding front_by good_front numbers_fit readable good_numbers session_of idle
  front_tie =
      let N = G.numbers in
      ap (λ (b : Bool). is_table first_eight G.table && b)
      (regroup (leb N.first 1) (leb N.done 1) (leb N.demanded 4096) (leb N.inquired 4096) (is_state N.state) (leb N.swaps 16) (in_range N.size N.salt)
      (implies (idle (session_of first_eight G)) (counts_nothing N)) (implies (eqb N.state EXPECTING_LAST) (are_counts 2520 G.columns.counts)))

  module _ (f : front ≡ true) where
    front-good : good_front first_eight G ≡ true
    front-good = sym front_tie ∙ f

    -- what the ledger's judge counts on
    pub judged_on : (is_table first_eight G.table ≡ true) × (G.numbers.demanded ≤ 4096) × (G.numbers.inquired ≤ 4096)
    judged_on = let few = readable-few G.numbers (front-readable G front-good) in (front-table G front-good, few.2, few.3)

    -- that there is a tally says whether the form is good
    back_tie : is_some (tally_given G) ≡ good_back first_eight G
    unfolding tally_there is_whole tally_of
    back_tie = said (tested_good G front-good) _ ∙ form_tie G front-good
      where
        said : (b : Bool) (T : Tally) → is_some (cond b (Some T) None) ≡ b
        said true T = refl
        said false T = refl

  -- the two ways of `judge`
  pub judged_not : front ≡ false → None ≡ judged_in
  unfolding judged_by
  judged_not e = ap (λ (b : Bool). cond b (tally_given G) None) (sym e)

  pub judged_so : front ≡ true → tally_given G ≡ judged_in
  unfolding judged_by
  judged_so e = ap (λ (b : Bool). cond b (tally_given G) None) (sym e)

  pub judged-form : is_some judged_in ≡ good_form first_eight G
  unfolding judged_by good_form
  judged-form = go front refl
    where
      go : (b : Bool) → front ≡ b → is_some (cond b (tally_given G) None) ≡ good_front first_eight G && good_back first_eight G
      go true e = back_tie e ∙ ap (λ (b : Bool). b && good_back first_eight G) (sym e ∙ front_tie)
      go false e = ap (λ (b : Bool). b && good_back first_eight G) (sym e ∙ front_tie)

  pub judged_tally : good_form first_eight G ≡ true → judged_in ≡ tally_given G
  unfolding good_form
  judged_tally e = sym (judged_so (front_tie ∙ and_l (good_front first_eight G) _ e))
