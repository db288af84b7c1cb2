-- The memory after an OFFER: new hashes stored among those demanded are the memory of the ledger that demands them. Assumes nothing.
use mathlib.Core.Path.{◌≡◌, sym, ap, subst, ◌∙◌}
use mathlib.Core.Bool.{true}
use mathlib.Core.List.{List, [], ◌∷◌, ◌++◌, map}
use Prim.Native.Nat.{ℕ, ◌+◌, ◌-◌, ◌≤◌}
use native.Mathlib.Omega.{arith}
use lib.ListN.{length, take, drop}
use lib.Seq.{drop-drop}
use Rattle.bucket.specs.Digits.{packed}
use Rattle.bucket.specs.Lists.{over}
use Rattle.bucket.proofs.OverLaws.{over-length, over-drop}
use Rattle.filter.specs.Table.{first_eight}
use Rattle.message.proofs.WholeLaws.{whole_length, one-back}
use Rattle.filter.specs.Sets.{◌∪◌, once}
use Rattle.ledger.specs.Session.{Ledger, Session, demanding, ids_of, held, held_ids}
use Rattle.ledger.specs.Memory.{mark_of, flag_of, marks_of, flags_of}
use Rattle.ledger.specs.Calls.{Given, table_of, session_of}
use Rattle.ledger.proofs.BelowLaws.{Fit}
use Rattle.session.specs.Moves.{Stored, stored, store_all}
use Rattle.filter.proofs.SetLaws.{◌∈◌, not_in}
use Rattle.filter.proofs.ListLaws.{Apart}
use Rattle.ledger.proofs.HeldLaws.{in_ids}
use Rattle.ledger.proofs.ActLaws.{no_flag}
use Rattle.ledger.proofs.LaidLaws.{over-same}
use Rattle.session.proofs.StoreLaws.{Storing, stored-all, stored-count}
use Rattle.ledger.proofs.Sound.{Sound}
use Rattle.ledger.proofs.GivenLaws.{given-known, given-books, given-few, given-rooms, given-demanded, given-far, given-marks, given-flags}
use Rattle.session.proofs.OfferCount.{new-distinct, new_not_held, new_not_demanded}

-- what lies behind is as it was
drop-behind : (k at : ℕ) (xs l : List ℕ) → at + length xs ≤ k → at ≤ length l → drop k (over at xs l) ≡ drop k l
drop-behind k at xs l h g =
    ap (λ (n : ℕ). drop n (over at xs l)) far
    ∙ sym (drop-drop (k - (at + length xs)) (at + length xs) (over at xs l))
    ∙ ap (drop (k - (at + length xs))) (over-drop at l xs g)
    ∙ drop-drop (k - (at + length xs)) (at + length xs) l
    ∙ ap (λ (n : ℕ). drop n l) (sym far)
  where
    far : k ≡ at + length xs + (k - (at + length xs))
    far = omega arith

module _ (G : Given) (s : Sound G) where
  abbrev t : List ℕ
  t = table_of G

  abbrev S : Session
  S = session_of first_eight G

  abbrev L : Ledger
  L = (session_of first_eight G).ledger

  abbrev n : ℕ
  n = G.numbers.demanded

  module _ (rest : List ℕ) (short : Fit 512 rest) (one : once (ids_of first_eight (held first_eight t L ++ L.demanded)) (ids_of first_eight rest) ≡ true) (few : n + length rest ≤ 4096) where
    storing : Storing n G.records G.marks rest
    unfolding ids_of
    storing = record {
      table = given-known G s;
      bytes = s.records-bytes;
      hashes = short;
      distinct = new-distinct first_eight t L (given-books G s) rest one;
      apart = subst (λ (K : List ℕ). Apart (map first_eight rest) (map first_eight K)) (given-demanded G s) (new_not_demanded first_eight t L (given-books G s) rest one);
      few = few;
      records-room = omega (arith, given-rooms G s);
      marks-room = (given-rooms G s).1;
    }

    -- a new hash has no mark
    none : (h : ℕ) → h ∈ rest → flag_of first_eight t L h ≡ 0
    none h e =
        no_flag first_eight t L (given-books G s) h (not_in (first_eight h) L.asked (λ k. lacks ((given-books G s).asked_held (first_eight h) k)))
        (λ k. lacks (in_ids first_eight h (held first_eight t L) k))
      where
        lacks : first_eight h ∈ held_ids first_eight t L → ⊥
        lacks = new_not_held first_eight t L (given-books G s) rest one (first_eight h) (in_ids first_eight h rest e)

    stored_now : store_all n rest (stored G.records G.marks)
        ≡ stored (over 0 (packed 512 (rest ∪ L.demanded)) G.records) (over 4096 (map (flag_of first_eight t L) (rest ∪ L.demanded)) G.marks)
    stored_now =
        stored-all storing (flag_of first_eight t L) (sym (given-flags G s) ∙ ap (map (flag_of first_eight t L)) (given-demanded G s)) none
        ∙ ap (λ (K : List ℕ). stored (over 0 (packed 512 (rest ∪ K)) G.records) (over 4096 (map (flag_of first_eight t L) (rest ∪ K)) G.marks)) (sym (given-demanded G s))

    pub demanded-long : length (rest ∪ L.demanded) ≡ n + length rest
    demanded-long = ap (λ (K : List ℕ). length (rest ∪ K)) (given-demanded G s) ∙ stored-count storing

    -- the far checksum lies behind
    far-kept : over 262144 (packed 512 (S.far ∷ [])) (over 0 (packed 512 (rest ∪ L.demanded)) G.records) ≡ over 0 (packed 512 (rest ∪ L.demanded)) G.records
    far-kept =
        ap (λ (l : List ℕ). over 262144 l X) (ap (λ (x : ℕ). packed 512 (x ∷ [])) (given-far G s) ∙ one-back 64 262144 G.records s.records-bytes (omega (arith, given-rooms G s)))
        ∙ ap (λ (l : List ℕ). over 262144 (take 64 l) X) (sym (drop-behind 262144 0 hashes G.records (omega (arith, size)) (omega arith)))
        ∙ over-same 262144 64 X (omega (arith, given-rooms G s, over-length 0 G.records hashes (omega (arith, size, given-rooms G s))))
      where
        hashes : List ℕ
        hashes = packed 512 (rest ∪ L.demanded)

        X : List ℕ
        X = over 0 hashes G.records

        size : length hashes ≤ 262144
        size = omega (arith, whole_length 64 (rest ∪ L.demanded), demanded-long)

    marks-kept : over 0 (marks_of first_eight t (demanding rest L)) G.marks ≡ G.marks
    unfolding mark_of
    marks-kept = ap (λ (l : List ℕ). over 0 l G.marks) (given-marks G s) ∙ over-same 0 (length t) G.marks (omega (arith, given-few G s, given-rooms G s))

    -- as the ledger that demands them is written
    pub offer-records : (store_all n rest (stored G.records G.marks)).records
        ≡ over 262144 (packed 512 (S.far ∷ [])) (over 0 (packed 512 (demanding rest L).demanded) G.records)
    offer-records = ap (λ (m : Stored). m.records) stored_now ∙ sym far-kept

    pub offer-marks : (store_all n rest (stored G.records G.marks)).marks
        ≡ over 4096 (flags_of first_eight t (demanding rest L)) (over 0 (marks_of first_eight t (demanding rest L)) G.marks)
    unfolding flag_of mark_of
    offer-marks =
        ap (λ (m : Stored). m.marks) stored_now
        ∙ ap (over 4096 (flags_of first_eight t (demanding rest L))) (sym marks-kept)
