-- The reader's `new` and `next`, as a caller has them that holds a lent slice s: a reader of s at the position n, and the answer there. For proofs by hand of functions that make a reader.
--
--   found, after            what stands at the position, and the position behind it
--   reader_comes            the machine value that `new` returns is the one of the definition's reader
--   answer_comes, answered  the same of `next`, and what is known of it there; found_is, after_is, after-fits: what is known of its parts
--   New, Next               the contracts
--   goes-new, goes-next     the lifetime's token and what s owns give what a call asks. A `&[u8]` is Copy: what s owns is kept
--   new-said, next-said     of what a call ensures, the clause alone: no function here has a `&mut`, so what is said of last values is dropped
--
-- In a local of a body MIR erases the lifetime of a struct's type, so each value is shown to have the type at `erased`: what a struct owns does not say the lifetime's name.
-- Assumes nothing.
use mathlib.Core.Path.{◌≡◌, refl, ap, ◌∙◌, subst}
use Prim.Native.Nat.{ℕ, ◌<◌, ◌^◌}
use mathlib.Core.List.{List, [], ◌∷◌}
use lib.ListN.{length}
use seplogic.Ra.Ura.{Ura}
use mir.Syntax.{named, erased, w8, w64}
use mir.Val.{Val, vint}
use base.Logic.{SProp, ent, sep, snd∗, ex_e}
use base.Fml.{Lft, Share, Fml, ftrue, flft}
use prog.Memory.{Memory}
use prog.Routine.{Routine}
use types.Logic.{Logic, sem}
use contract.Monad.{Fun, fact}
use types.Kit.{Item, ‵, raw, ◌⊛◌, ⋆, ◌$◌, ◌∵◌, !, qed, move, use1, use2, split, join, fjoin, frame, done}
use denote.RattleType.{RattleType, owns}
use denote.Laws.{Is}
use denote.Plain.{uint_Makes, uint_row_laws}
use denote.Builtin.{u8, usize}
use denote.Ref.{Bor, NamedLft}
use denote.Signature.{named_lft}
use denote.Slice.{slice_val, ShrSlice, shr_slice_copy}
use denote.Steps.{only, owned, nothing}
use denote.Enum.Laws as EL
use denote.Struct.Laws as LL
use denote.Struct.Rest.{own_shut}
use denote.Triple.Statement.{Contract}
use denote.Triple.Spec.{triple_of}
use denote.Triple.Clauses.{ensured, lasts}
use Rattle.message.specs.Walking.{Walked, walk_at, behind, reader_at, next_of}
use Rattle.message.specs.declared.reader.Reader.{Reader}
use Rattle.message.specs.declared.reader.Taken.{Taken}
use Rattle.message.specs.contracts.reader.Reader as T
use Rattle.message.proofs.reader.Reader.TheLaws as T'
use Rattle.message.specs.contracts.reader.Taken as N
use Rattle.message.proofs.reader.Taken.TheLaws as N'
use Rattle.std.specs.contracts.option.Option as O
use Rattle.std.proofs.option.Option.TheLaws as O'
use Rattle.std.specs.contracts.result.Result as S
use Rattle.std.proofs.result.Result.TheLaws as S'
use Rattle.message.specs.contracts.walking.Found as F
use Rattle.message.proofs.walking.Found.TheLaws as F'
use Rattle.message.specs.contracts.walking.Broken as B
use Rattle.message.proofs.walking.Broken.TheLaws as B'
use Rattle.message.specs.contracts.reader.Reader.new as new
use Rattle.message.specs.contracts.reader.Reader.next as next

-- the structs' types, at a signature's lifetime and in a local
abbrev pub Readers : Lft → RattleType
Readers κ = T.the_row (named_lft 1 0 tt (κ, tt))

abbrev pub Answers : Lft → RattleType
Answers κ = N.the_row (named_lft 1 0 tt (κ, tt))

-- the type of what stands at a position: a message or none, if it is not the end
abbrev Steps : RattleType
Steps = S.the_row F.the_row B.the_row

abbrev pub Walks : RattleType
Walks = O.the_row Steps

abbrev pub erased_at : Lft → NamedLft
erased_at κ = record { mir = erased; lft = κ }

module _ (κ : Lft) (s : Bor (List ℕ)) (n : ℕ) where
  abbrev pub reader : Reader
  reader = reader_at s n

  abbrev pub answer : Taken
  answer = next_of reader

  abbrev pub found : Walked
  found = walk_at s.now n

  abbrev pub after : ℕ
  after = behind found n

  -- their machine values
  abbrev pub lowered : Taken → Val
  lowered t = LL.val (N.the_type (erased_at κ)) (N'.the_laws (erased_at κ)) t

  abbrev pub lowered-found : Val
  lowered-found =
      EL.val (O.the_type Steps)
      (O'.the_laws Steps (S'.the_row_laws F.the_row B.the_row F'.the_row_laws B'.the_row_laws)
      (S'.the_told F.the_row B.the_row F'.the_row_laws B'.the_row_laws F'.the_told B'.the_told)) found

  pub reader_comes : (r : Reader) → r ≡ reader → (u : Val) → Is (T.the_row (erased_at κ)) r (u ∷ []) → u ≡ T'.lowered reader
  reader_comes r e u is = ap only (LL.tells (T.the_type (erased_at κ)) (T'.the_laws (erased_at κ)) r _ is) ∙ ap T'.lowered e

  module _ (t : Taken) (e : t ≡ answer) (u : Val) (is : Is (N.the_row (erased_at κ)) t (u ∷ [])) where
    tells : u ∷ [] ≡ lowered t ∷ []
    tells = LL.tells (N.the_type (erased_at κ)) (N'.the_laws (erased_at κ)) t _ is

    pub answer_comes : u ≡ lowered answer
    answer_comes = ap only tells ∙ ap lowered e

    pub answered : Is (N.the_row (erased_at κ)) answer (lowered answer ∷ [])
    answered = subst (λ (x : Taken). Is (N.the_row (erased_at κ)) x (lowered x ∷ [])) e (subst (Is (N.the_row (erased_at κ)) t) tells is)

  module _ (is : Is (N.the_row (erased_at κ)) answer (lowered answer ∷ [])) where
    pub found_is : Is Walks found (lowered-found ∷ [])
    found_is = (LL.owed (N.the_type (erased_at κ)) (N'.the_laws (erased_at κ)) answer _ is).0

    pub after_is : Is (T.the_row (erased_at κ)) (reader_at s after) (T'.lowered (reader_at s after) ∷ [])
    after_is = (LL.owed (N.the_type (erased_at κ)) (N'.the_laws (erased_at κ)) answer _ is).1.0

    pub after-fits : after < 2 ^ 64
    after-fits = (LL.owed (T.the_type (erased_at κ)) (T'.the_laws (erased_at κ)) (reader_at s after) _ after_is).1.0.1

module _ {M : Type 1} {𝓤 : Ura M} (𝓛 : Logic 𝓤) (mem : Memory → SProp 𝓤) (run : Routine → Fun 𝓤) where
  abbrev pub New : Contract 𝓤
  New = triple_of 𝓛 new.signature (new.spec 𝓛 mem run)

  abbrev pub Next : Contract 𝓤
  Next = triple_of 𝓛 next.signature (next.spec 𝓛 mem run)

module _ {M : Type 1} {𝓤 : Ura M} (𝓛 : Logic 𝓤) (mem : Memory → SProp 𝓤) (run : Routine → Fun 𝓤) (κ : Lft) (q : Share) (s : Bor (List ℕ)) where
  abbrev pub v : Val
  v = slice_val s.ref_ptr (length s.now)

  abbrev pub Own : Fml
  Own = (ShrSlice (named 0) κ u8).own_val s (v ∷ [])

  abbrev pub token : Item 𝓤
  token = ‵ (flft κ q) ⊛ ‵ ftrue

  module _ (n : ℕ) where
    abbrev pub to_new : (New 𝓛 mem run).Ghost
    to_new = (((κ, tt), (q, tt), tt, (s, (n, tt)), (v ∷ [], (vint w64 n ∷ [], tt))), tt)

    abbrev pub to_next : (Next 𝓛 mem run).Ghost
    to_next = (((κ, tt), (q, tt), tt, (reader_at s n, tt), (T'.lowered (reader_at s n) ∷ [], tt)), tt)

    pub new-said : (r : Reader) → ent 𝓤 (ensured 𝓛 new.ended (new.clauses 𝓛 mem run) (κ, tt) (s, (n, tt)) tt r) (fact 𝓤 (r ≡ reader_at s n))
    new-said r = ex_e 𝓤 _ (λ ws. snd∗ 𝓤 (sem 𝓛 (lasts new.ended (κ, tt) (s, (n, tt)) ws)) (fact 𝓤 (r ≡ reader_at s n)))

    pub next-said : (t : Taken) → ent 𝓤 (ensured 𝓛 next.ended (next.clauses 𝓛 mem run) (κ, tt) (reader_at s n, tt) tt t) (fact 𝓤 (t ≡ answer κ s n))
    next-said t = ex_e 𝓤 _ (λ ws. snd∗ 𝓤 (sem 𝓛 (lasts next.ended (κ, tt) (reader_at s n, tt) ws)) (fact 𝓤 (t ≡ answer κ s n)))

    module _ (fits : n < 2 ^ 64) where
      abbrev Passed : Fml
      Passed = owns (ShrSlice (named 0) κ u8 ∷ usize ∷ []) (s, (n, tt)) (v ∷ [], (vint w64 n ∷ [], tt))

      passed : ent 𝓤 (sem 𝓛 Own) (sep 𝓤 (sem 𝓛 Passed) (sem 𝓛 Own))
      passed =
          qed 𝓛 (‵ Own ∷ []) ∵ use1 𝓛 (‵ Own ⊛ ‵ Own) ((shr_slice_copy 𝓛 (named 0) κ u8 (uint_row_laws w8)).twice s (v ∷ [])) $ split ! $
          nothing ! $ owned ! usize (Is usize) (uint_Makes 𝓛 w64) n _ (refl, fits) $ fjoin ! $ move ! (1 ∷ 0 ∷ []) $ fjoin ! $ frame ! $ done !

      pub goes-new : ent 𝓤 (⋆ 𝓛 (token ∷ ‵ Own ∷ [])) (sep 𝓤 ((New 𝓛 mem run).pre to_new) (sem 𝓛 Own))
      goes-new =
          qed 𝓛 (token ∷ ‵ Own ∷ []) ∵ move ! (1 ∷ []) $ use1 𝓛 (‵ Passed ⊛ ‵ Own) passed $ split ! $ move ! (2 ∷ 0 ∷ []) $
          use2 𝓛 (raw ((New 𝓛 mem run).pre to_new)) (qed 𝓛 (token ∷ ‵ Passed ∷ []) ∵ join ! $ frame ! $ done !) $ frame ! $ done !

      pub goes-next : ent 𝓤 (⋆ 𝓛 (token ∷ ‵ Own ∷ [])) (sep 𝓤 ((Next 𝓛 mem run).pre to_next) (sem 𝓛 Own))
      goes-next =
          qed 𝓛 (token ∷ ‵ Own ∷ []) ∵ move ! (1 ∷ []) $ use1 𝓛 (‵ Passed ⊛ ‵ Own) passed $ split ! $
          use1 𝓛 (‵ ((Readers κ).own_val (reader_at s n) (T'.lowered (reader_at s n) ∷ []))) (own_shut 𝓛 (T.the_type (named_lft 1 0 tt (κ, tt))) (T'.the_laws (named_lft 1 0 tt (κ, tt))) (s, (n, tt))) $
          nothing ! $ move ! (1 ∷ 0 ∷ []) $ fjoin ! $ move ! (2 ∷ 0 ∷ []) $
          use2 𝓛 (raw ((Next 𝓛 mem run).pre to_next)) (qed 𝓛 (token ∷ ‵ (owns (Readers κ ∷ []) (reader_at s n, tt) (T'.lowered (reader_at s n) ∷ [], tt)) ∷ []) ∵ join ! $ frame ! $ done !) $ frame ! $ done !
