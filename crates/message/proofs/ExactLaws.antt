-- What is read, exactly: bytes are read as the message m exactly when they are the layout of something in range whose kind and numbers are m, and
-- are malformed exactly when they are the layout of nothing in range.
--
--   LayoutOf bs m      bs is the layout of something in range, `said`, whose kind and numbers are m
--   read_exactly        both ways, for every m
--   said_exactly        and `content m bs` is what was said
--   malformed_exactly   both ways, for no message
--   layout-bytes        a layout is bytes
--   content_unique      different contents have different layouts
--
-- Assumes nothing.
use mathlib.Core.Path.{◌≡◌, refl, sym, ap, ap₂, ◌∙◌, subst}
use mathlib.Core.List.{List, [], ◌∷◌, ◌++◌}
use Prim.Native.Nat.{ℕ, zero, suc}
use Rattle.std.proofs.Common.{Option, Some, None}
use Rattle.bucket.specs.Digits.{packed, Below}
use Rattle.bucket.proofs.PackedLaws.{packed-below}
use Rattle.message.specs.declared.kinds.Message.{Message}
use Rattle.message.specs.Layout.{Content, slice, inquiry, offer, demand, element, done, Good, layout, framed}
use Rattle.message.specs.Reading.{parse, content, head}
use Rattle.message.proofs.SoundLaws.{Told, Sound, sound}
use Rattle.message.proofs.CompleteLaws.{complete, not_malformed}

pub record LayoutOf (bs : List ℕ) (m : Message) : Type 0 where
  pub said : Content
  pub good : Good said
  pub same : head said ≡ m
  pub bytes : layout said ≡ bs

told-layout : (bs : List ℕ) (m : Message) → Told bs m → LayoutOf bs m
told-layout bs m t = record { said = content m bs; good = t.good; same = t.same; bytes = t.bytes }

pub read_exactly : (bs : List ℕ) → Below 8 bs → (m : Message)
    → (parse bs ≡ Some m → LayoutOf bs m) × (LayoutOf bs m → parse bs ≡ Some m)
read_exactly bs below m = (
  λ e. told-layout bs m (subst (Sound bs) e (sound bs below)),
  λ l. sym (ap parse l.bytes) ∙ (complete l.said l.good).read ∙ ap Some l.same,
)

pub said_exactly : (bs : List ℕ) (m : Message) (l : LayoutOf bs m) → content m bs ≡ l.said
said_exactly bs m l = ap₂ content (sym l.same) (sym l.bytes) ∙ (complete l.said l.good).said

pub malformed_exactly : (bs : List ℕ) → Below 8 bs
    → (parse bs ≡ None → (c : Content) → Good c → layout c ≡ bs → ⊥)
    × (((c : Content) → Good c → layout c ≡ bs → ⊥) → parse bs ≡ None)
malformed_exactly bs below = (λ e c good q. not_malformed c bs good q e, λ none. go none (parse bs) (sound bs below))
  where
    go : ((c : Content) → Good c → layout c ≡ bs → ⊥) → (x : Option Message) → Sound bs x → x ≡ None
    go none None t = refl
    go none (Some m) t = absurd (none (content m bs) t.good t.bytes)

append-below : (w : ℕ) (xs ys : List ℕ) → Below w xs → Below w ys → Below w (xs ++ ys)
append-below w [] ys f g i = g i
append-below w (x ∷ xs) ys f g zero = f 0
append-below w (x ∷ xs) ys f g (suc i) = append-below w xs ys (λ j. f (suc j)) g i

framed-below : (t : ℕ) (body : List ℕ) → Below 8 body → Below 8 (framed t body)
unfolding framed
framed-below t body h = append-below 8 (packed 16 (_ ∷ t ∷ [])) body (packed-below 16 _) h

pub layout-bytes : (c : Content) → Good c → Below 8 (layout c)
unfolding layout
layout-bytes (slice size offset salt width ids hashes counts) good =
    framed-below _ _
    (append-below 8 (packed 32 (size ∷ offset ∷ [])) _ (packed-below 32 _)
    (append-below 8 (packed 16 (salt ∷ width ∷ [])) _ (packed-below 16 _)
    (append-below 8 (packed 64 ids) _ (packed-below 64 ids) (append-below 8 (packed 32 hashes) _ (packed-below 32 hashes) (packed-below width counts)))))
layout-bytes (inquiry salt ids) good = framed-below _ _ (append-below 8 (packed 32 (salt ∷ [])) _ (packed-below 32 _) (packed-below 64 ids))
layout-bytes (offer hashes) good = framed-below _ _ (packed-below 512 hashes)
layout-bytes (demand hashes) good = framed-below _ _ (packed-below 512 hashes)
layout-bytes (element bytes) good = framed-below _ bytes good.fit
layout-bytes (done check) good = framed-below _ _ (packed-below 512 (check ∷ []))

pub content_unique : (c d : Content) → Good c → Good d → layout c ≡ layout d → c ≡ d
content_unique c d good-c good-d e =
    sym (complete c good-c).said
    ∙ ap₂ content same e
    ∙ (complete d good-d).said
  where
    same : head c ≡ head d
    same = let e' : Some (head c) ≡ Some (head d) = sym (complete c good-c).read ∙ ap parse e ∙ (complete d good-d).read in cc
