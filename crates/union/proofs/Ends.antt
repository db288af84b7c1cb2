-- Two ends that exchange messages, and messages that carry a list in parts (document 02, Req 14).
--
--   Rules             how an ID is derived, the hash of a content, and the content of the element with a hash
--   End               a table, a session, and whether any message was refused
--   next, says        what an end is after a message, and what it then sends
--   Hear a ms a' out  an end a hears messages: it is a' then, and has sent out (Net)
--   put, led          a session in a state and with a ledger; a ledger by lists in the order in which they came
--   hear              a message that the grid admits and whose tests hold is acted on, and not refused
--   hears_cut         messages of one kind, answered by messages of another: what matters is the list, not how it is cut
--
-- Assumes nothing.
use mathlib.Core.Path.{◌≡◌, refl, sym, ap, ap₂, ◌∙◌, subst}
use mathlib.Core.Bool.{Bool, true, false, not, ◌||◌}
use mathlib.Core.List.{List, [], ◌∷◌, ◌++◌, map, foldr, flatten, flat_map, append_assoc, append-nil, map-append}
use Prim.Native.Nat.{ℕ}
use native.Mathlib.Omega.{arith}
use lib.Bits.{bit_xor}
use lib.Dec.{eqb}
use Rattle.bucket.specs.Lists.{Distinct}
use Rattle.filter.specs.Sets.{◌∪◌}
use Rattle.filter.proofs.SetLaws.{◌∈◌, ◌⊆◌, in_append-l, in_append-r, ∪-nil}
use Rattle.filter.proofs.ListLaws.{Apart, distinct-front, distinct-back, distinct_apart}
use Rattle.message.specs.Layout.{Content, slice, inquiry, offer, demand, element, done}
use Rattle.message.specs.Writing.{pieces}
use Rattle.message.proofs.PieceLaws.{pieces_whole}
use Rattle.ledger.specs.Grid.{kind_of, entry}
use Rattle.ledger.specs.Session.{Ledger, Session, is_slice, admitted, tests, refusal, act, step}
use Rattle.ledger.proofs.GridLaws.{admitted_other}
use Rattle.ledger.proofs.FaultLaws.{Holds, none-refused}
use Rattle.union.proofs.Net.{Hears, hears_nil, hears_one, hears_then}

-- ---- ends

pub record Rules : Type 0 where
  pub id_of : ℕ → ℕ
  pub hash : List ℕ → ℕ
  pub content : ℕ → List ℕ

abbrev pub element_of : Rules → ℕ → Content
element_of R h = element (R.content h)

-- the hash that is worked out for an ELEMENT
abbrev pub worked : Rules → Content → ℕ
worked R (slice size offset salt width ids hashes counts) = 0
worked R (inquiry salt xs) = 0
worked R (offer hs) = 0
worked R (demand hs) = 0
worked R (element bytes) = R.hash bytes
worked R (done check) = 0

-- contents whose hash is worked out right
abbrev pub Worked : Rules → List ℕ → Type 0
Worked R l = (h : ℕ) → h ∈ l → R.hash (R.content h) ≡ h

pub record End : Type 0 where
  pub table : List ℕ
  pub session : Session
  pub refused : Bool

-- one that has refused nothing
abbrev pub end : List ℕ → Session → End
end t s = record { table = t; session = s; refused = false }

-- "each caller .. hands back what it got, and sends all that is due, in order, and nothing else"
abbrev pub next : Rules → End → Content → End
next R e c =
    record {
      table = e.table;
      session = (step R.id_of e.table (worked R c) e.session c).session;
      refused = e.refused || not (eqb (refusal R.id_of e.table (worked R c) e.session c) 0);
    }

abbrev pub says : Rules → End → Content → List Content
says R e c =
    let o = step R.id_of e.table (worked R c) e.session c in
    o.sent ++ map (element_of R) o.due

-- a session in another state and with another ledger
abbrev pub put : Session → ℕ → Bool → Ledger → Session
put s q f L =
    record {
      state = q;
      first = f;
      size = s.size;
      salt = s.salt;
      width = s.width;
      swaps = s.swaps;
      far = s.far;
      columns = s.columns;
      ours = s.ours;
      theirs = s.theirs;
      ledger = L;
    }

-- a session that keeps a far checksum
abbrev pub keeping : ℕ → Session → Session
keeping c s =
    record {
      state = s.state;
      first = s.first;
      size = s.size;
      salt = s.salt;
      width = s.width;
      swaps = s.swaps;
      far = c;
      columns = s.columns;
      ours = s.ours;
      theirs = s.theirs;
      ledger = s.ledger;
    }

-- a ledger by what was inquired, asked, offered, served, demanded and gained, in the order in which it came
abbrev pub led : List ℕ → List ℕ → List ℕ → List ℕ → List ℕ → List ℕ → Bool → Ledger
led q k o w d g b = record { inquired = q ∪ []; asked = k ∪ []; offered = o ∪ []; served = w ∪ []; demanded = d ∪ []; gained = g ∪ []; done_went = b }

abbrev pub sum : List ℕ → ℕ
sum l = foldr bit_xor 0 l

-- ---- lists in parts

-- what comes now of a list without repeats, after what came before
pub record Part (l before now : List ℕ) : Type 0 where
  pub distinct : Distinct now
  pub apart : Apart now before
  pub within : (before ++ now) ⊆ l

part_of : (l a c b : List ℕ) → Distinct l → a ++ (c ++ b) ≡ l → Part l a c
part_of l a c b d e =
    let whole : Distinct (a ++ (c ++ b)) = subst Distinct (sym e) d in
    record {
      distinct = distinct-front c b (distinct-back a (c ++ b) whole);
      apart = λ x m. distinct_apart a (c ++ b) whole x (in_append-l x c b m);
      within = λ x m. subst (λ (k : List ℕ). x ∈ k) (append_assoc a c b ∙ e) (in_append-l x (a ++ c) b m);
    }

-- a part stands in the list, and apart from the set of what came before
pub now_in : {l a c : List ℕ} → Part l a c → c ⊆ l
now_in {l} {a} {c} p x e = p.within x (in_append-r x a c e)

pub now_apart : {l a c : List ℕ} → Part l a c → Apart c (a ∪ [])
now_apart {l} {a} {c} p x e k = p.apart x e (∪-nil x a k)

-- ---- lists of lists

pub map-flat_map : {A B C : Type 0} (g : B → C) (f : A → List B) (l : List A) → map g (flat_map f l) ≡ flat_map (λ x. map g (f x)) l
unfolding flat_map
map-flat_map g f [] = refl
map-flat_map g f (x ∷ l) = map-append g (f x) (flat_map f l) ∙ ap (λ (k : List _). map g (f x) ++ k) (map-flat_map g f l)

pub flat_map_self : {A : Type 0} (l : List (List A)) → flat_map (λ (x : List A). x) l ≡ flatten l
unfolding flat_map flatten
flat_map_self [] = refl
flat_map_self (x ∷ l) = ap (λ (k : List _). x ++ k) (flat_map_self l)

flatten_append : (a b : List (List ℕ)) → flatten (a ++ b) ≡ flatten a ++ flatten b
unfolding flatten
flatten_append [] b = refl
flatten_append (x ∷ a) b = ap (λ (l : List ℕ). x ++ l) (flatten_append a b) ∙ sym (append_assoc x (flatten a) (flatten b))

-- what answers the parts, cut again, is the answer to the whole
pieces-joined : (g : List ℕ → List ℕ) → g [] ≡ [] → ((a b : List ℕ) → g (a ++ b) ≡ g a ++ g b) → (cs : List (List ℕ))
    → flatten (flat_map (λ c. pieces 1023 (g c)) cs) ≡ g (flatten cs)
unfolding flat_map flatten
pieces-joined g none both [] = sym none
pieces-joined g none both (c ∷ cs) =
    flatten_append (pieces 1023 (g c)) (flat_map (λ c. pieces 1023 (g c)) cs)
    ∙ ap₂ ◌++◌ (pieces_whole 1023 (g c) (omega arith)) (pieces-joined g none both cs)
    ∙ sym (both c (flatten cs))

pub flat_map_single : (l : List ℕ) → flat_map (λ (h : ℕ). h ∷ []) l ≡ l
unfolding flat_map
flat_map_single [] = refl
flat_map_single (h ∷ l) = ap (λ (k : List ℕ). h ∷ k) (flat_map_single l)

pub flat_map-none : (l : List ℕ) → flat_map {B = Content} (λ (h : ℕ). []) l ≡ []
unfolding flat_map
flat_map-none [] = refl
flat_map-none (h ∷ l) = flat_map-none l

-- a list that is not empty ends with something
pub ends_with : (x : ℕ) (l : List ℕ) → (i : List ℕ) × (y : ℕ) × (x ∷ l ≡ i ++ (y ∷ []))
ends_with x [] = ([], x, refl)
ends_with x (z ∷ l) = let (i, y, e) = ends_with z l in (x ∷ i, y, ap (λ (k : List ℕ). x ∷ k) e)

-- a state takes this message, by the grid; for one that is no slice this is all
abbrev pub Takes : ℕ → Content → Type 0
Takes q c = entry q (kind_of c) ≡ true

pub admits : (s : Session) (c : Content) → is_slice c ≡ false → Takes s.state c → admitted s c ≡ true
admits s c k e = admitted_other s c k ∙ e

module _ (R : Rules) where
  abbrev pub Hear : End → List Content → End → List Content → Type 0
  Hear = Hears (next R) (says R)

  pub hears_as : {a a' : End} {ms ns out said : List Content} → ms ≡ ns → out ≡ said → Hear a ms a' out → Hear a ns a' said
  hears_as {a} {a'} {ms} {ns} {out} {said} p q h = subst (λ (x : List Content). Hear a x a' said) p (subst (Hear a ms a') q h)

  -- ---- one message, and messages that carry a list in parts

  pub hear : (t : List ℕ) (s : Session) (c : Content) (h : ℕ) → worked R c ≡ h → admitted s c ≡ true → Holds (tests R.id_of t h s c)
      → Hear (end t s) (c ∷ []) (end t (act R.id_of t h s c).session) ((act R.id_of t h s c).sent ++ map (element_of R) (act R.id_of t h s c).due)
  unfolding step
  hear t s c h w ad ts = rw (w, none-refused R.id_of t h s c ad ts) at (hears_one (next R) (says R) (end t s) c)

  -- messages of one kind: the end passes from stage to stage, by what came so far
  hears_parts : {A : Type 0} (list : A → List ℕ) (kind : A → Content) (out : A → List Content) (stage : Bool → List ℕ → End) (l : List ℕ) → Distinct l
      → ((f : Bool) (a : List ℕ) (c : A) → Part l a (list c) → Hear (stage f a) (kind c ∷ []) (stage false (a ++ list c)) (out c))
      → (cs : List A) (f : Bool) (a : List ℕ) → a ++ flat_map list cs ≡ l → (f' : Bool) × Hear (stage f a) (map kind cs) (stage f' l) (flat_map out cs)
  unfolding flat_map
  hears_parts list kind out stage l d one [] f a e =
      (f, subst (λ (k : List ℕ). Hear (stage f a) [] (stage f k) []) (sym (append-nil a) ∙ e) (hears_nil (next R) (says R) (stage f a)))
  hears_parts list kind out stage l d one (c ∷ cs) f a e =
      let (f', rest) = hears_parts list kind out stage l d one cs false (a ++ list c) (append_assoc a (list c) (flat_map list cs) ∙ e) in
      (f', hears_then (next R) (says R) (one f a c (part_of l a (list c) (flat_map list cs) d e)) rest)

  -- the whole list, and all that is said
  pub hears_list : {A : Type 0} (list : A → List ℕ) (kind : A → Content) (out : A → List Content) (stage : Bool → List ℕ → End) (l : List ℕ) → Distinct l
      → ((f : Bool) (a : List ℕ) (c : A) → Part l a (list c) → Hear (stage f a) (kind c ∷ []) (stage false (a ++ list c)) (out c))
      → (cs : List A) → flat_map list cs ≡ l → (said : List Content) → flat_map out cs ≡ said → (f : Bool)
      → (f' : Bool) × Hear (stage f []) (map kind cs) (stage f' l) said
  hears_list list kind out stage l d one cs e said is f =
      let (f', heard) = hears_parts list kind out stage l d one cs f [] e in
      (f', hears_as refl is heard)

  -- each answered by messages of another kind
  pub hears_cut : (kind back : List ℕ → Content) (g : List ℕ → List ℕ) → g [] ≡ [] → ((a b : List ℕ) → g (a ++ b) ≡ g a ++ g b)
      → (stage : Bool → List ℕ → End) (l : List ℕ) → Distinct l
      → ((f : Bool) (a c : List ℕ) → Part l a c → Hear (stage f a) (kind c ∷ []) (stage false (a ++ c)) (map back (pieces 1023 (g c))))
      → (cs : List (List ℕ)) → flatten cs ≡ l → (f : Bool)
      → (f' : Bool) × (ds : List (List ℕ)) × (flatten ds ≡ g l) × Hear (stage f []) (map kind cs) (stage f' l) (map back ds)
  hears_cut kind back g none both stage l d one cs e f =
      let ds : List (List ℕ) = flat_map (λ c. pieces 1023 (g c)) cs in
      let (f', heard) =
      hears_list (λ c. c) kind (λ c. map back (pieces 1023 (g c))) stage l d one cs (flat_map_self cs ∙ e) (map back ds)
      (sym (map-flat_map back (λ c. pieces 1023 (g c)) cs)) f in
      (f', ds, pieces-joined g none both cs ∙ ap g e, heard)
