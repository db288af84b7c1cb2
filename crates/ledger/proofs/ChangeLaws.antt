-- What a step changes of what is gained. Assumes nothing.
use mathlib.Core.Path.{◌≡◌, refl, sym, ap, ◌∙◌}
use mathlib.Core.Logic.{◌⊎◌, inl}
use mathlib.Core.Bool.{Bool, ◌||◌}
use mathlib.Core.List.{List}
use Prim.Native.Nat.{ℕ}
use lib.Dec.{eqb}
use Rattle.bucket.specs.Lists.{elem}
use Rattle.bucket.proofs.ListLaws.{or_assoc}
use Rattle.message.specs.Layout.{Content}
use Rattle.filter.specs.Sets.{insert, ◌∪◌}
use Rattle.ledger.specs.Session.{Ledger, Session, Outcome, unmet, sliced, held, refusal, swapped, decoded, act, step}
use Rattle.filter.proofs.SetLaws.{◌∈◌, Asc, elem-insert, elem-∪, insert-asc, ∪-asc, asc_ext}
use Rattle.ledger.proofs.BookLaws.{Form}
use Rattle.ledger.proofs.FaultLaws.{by_kind, refused-ended, by_reading, by_step}
use Rattle.ledger.proofs.Lawful.{lawful}

module _ (derive : ℕ → ℕ) (t : List ℕ) where
  -- ---- gained

  -- nothing more is gained, or the element is that was demanded and unmet
  abbrev Gained : ℕ → Ledger → Session → Type 0
  Gained h L u = (u.ledger.gained ≡ L.gained) ⊎ ((h ∈ unmet L) × (u.ledger.gained ≡ insert h L.gained))

  pub gained-step : (h : ℕ) (s : Session) (c : Content) → Form derive t s → Gained h s.ledger (step derive t h s c).session
  unfolding act decoded swapped sliced
  gained-step h s c f =
      by_step derive t (λ o. Gained h s.ledger o.session) h s c
      (λ ad fs. by_kind (λ (o : Outcome). Gained h s.ledger o.session) c _ _
      (λ size offset salt width ids hashes counts e.
      by_reading derive t (λ o. Gained h s.ledger o.session) s c size offset salt width (λ whole yes. inl refl) (λ whole no. inl refl) (inl refl))
      (λ k. (lawful derive t h s c k f ad fs).gained))
      (inl (ap (λ (L : Ledger). L.gained) (refused-ended derive t (refusal derive t h s c) s c).ledger))

  -- one more gained is one more held
  pub held-insert : (h : ℕ) (L K : Ledger) → Asc t → K.gained ≡ insert h L.gained → held derive t K ≡ insert h (held derive t L)
  unfolding held
  held-insert h L K at e = ap (λ (g : List ℕ). g ∪ t) e ∙ both
    where
      same : (x : ℕ) → elem x (insert h L.gained ∪ t) ≡ elem x (insert h (L.gained ∪ t))
      same x =
          elem-∪ x (insert h L.gained) t
          ∙ ap (λ (b : Bool). b || elem x t) (elem-insert x h L.gained)
          ∙ or_assoc (eqb x h) (elem x L.gained) (elem x t)
          ∙ ap (λ (b : Bool). eqb x h || b) (sym (elem-∪ x L.gained t))
          ∙ sym (elem-insert x h (L.gained ∪ t))

      both : insert h L.gained ∪ t ≡ insert h (L.gained ∪ t)
      both =
          asc_ext (insert h L.gained ∪ t) (insert h (L.gained ∪ t)) (∪-asc (insert h L.gained) t at)
          (insert-asc h (L.gained ∪ t) (∪-asc L.gained t at))
          (λ x k. sym (same x) ∙ k) (λ x k. same x ∙ k)

  pub held_same : (L K : Ledger) → K.gained ≡ L.gained → held derive t K ≡ held derive t L
  unfolding held
  held_same L K e = ap (λ (g : List ℕ). g ∪ t) e
