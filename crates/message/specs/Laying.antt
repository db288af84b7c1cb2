-- A slice laid into three lent columns at its offset, as one call.
--
--   laid c cols       the columns with the slice that c says laid into them
--   slice_end m        the places that laying m takes
--   lay_call bs cols   refusals 2 and 4, or the slice laid; a refusal leaves everything unchanged
--   lay_numbers l      the same with the refusal's number, for C
--
-- A message that is no slice asks for no room, so 2 and 4 never meet.
-- Assumes nothing.
use Rattle.std.specs.Prelude.{Bool, true, false, cond, List, [], ◌∷◌, map, ℕ, ◌+◌, eqb, pos, Option, Some, None}
use Rattle.bucket.specs.Columns.{Columns, columns}
use Rattle.bucket.specs.Lists.{over}
use Rattle.filter.specs.declared.answers.Refusal.{Refusal}
use Rattle.filter.specs.declared.answers.Refusal.TheVariants.{Room, Malformed}
use Rattle.filter.specs.Answers.{number_of, first_of}
use Rattle.filter.specs.Calls.{has_room, Build, built}
use Rattle.message.specs.declared.kinds.Message.{Message}
use Rattle.message.specs.declared.kinds.Message.TheVariants.{Ibf, IbfLast, Inquiry, Offer, Demand, Element, Done}
use Rattle.message.specs.Layout.{Content, slice, inquiry, offer, demand, element, done}
use Rattle.message.specs.Reading.{parse, content}

-- "lays its slice in the columns at its offset"
unfoldable pub laid : Content → Columns → Columns
laid (slice size offset salt width ids hashes counts) c =
    columns (over offset ids c.idsums) (over offset hashes c.hashsums) (over offset (map pos counts) c.counts)
laid (inquiry salt ids) c = c
laid (offer hashes) c = c
laid (demand hashes) c = c
laid (element bytes) c = c
laid (done check) c = c

abbrev pub is_slice : Message → Bool
is_slice (Ibf s) = true
is_slice (IbfLast s) = true
is_slice (Inquiry salt n) = false
is_slice (Offer n) = false
is_slice (Demand n) = false
is_slice (Element n) = false
is_slice Done = false

abbrev pub slice_end : Message → ℕ
slice_end (Ibf s) = s.offset + s.count
slice_end (IbfLast s) = s.offset + s.count
slice_end (Inquiry salt n) = 0
slice_end (Offer n) = 0
slice_end (Demand n) = 0
slice_end (Element n) = 0
slice_end Done = 0

unfoldable pub lay_refusal : Message → Columns → Option Refusal
lay_refusal m c = first_of ((Room, has_room (slice_end m) c) ∷ (Malformed, is_slice m) ∷ [])

pub record Lay : Type 0 where
  pub refusal : Option Refusal
  pub columns : Columns

abbrev pub lay : Option Refusal → Columns → Lay
lay r c = record { refusal = r; columns = c }

unfoldable pub lay_as : Message → List ℕ → Columns → Lay
lay_as m bs c =
    let r = lay_refusal m c in
    lay r (cond (eqb (number_of r) 0) (laid (content m bs) c) c)

-- bytes that are no message are refused with 4 too
abbrev pub lay_read : Option Message → List ℕ → Columns → Lay
lay_read (Some m) bs c = lay_as m bs c
lay_read None bs c = lay (Some Malformed) c

unfoldable pub lay_call : List ℕ → Columns → Lay
lay_call bs c = lay_read (parse bs) bs c

abbrev pub lay_numbers : Lay → Build
lay_numbers l = built (number_of l.refusal) l.columns
