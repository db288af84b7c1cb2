-- The kinds of messages by their MSG TYPE (document 01, "Messages").
--
--   type_of k         the MSG TYPE of a kind
--   kind_named n      the kind whose MSG TYPE is n, or that no kind has it
--   kind_of m         the kind of a message
--   slice_as m        the slice that a message is, or that it is none
--
-- Assumes nothing.
use Rattle.std.specs.Prelude.{cond, ℕ, eqb, Option, Some, None, Result, Ok, Err}
use Rattle.message.specs.declared.kinds.Kind.{Kind}
use Rattle.message.specs.declared.kinds.Kind.TheVariants as K
use Rattle.message.specs.declared.kinds.Message.{Message}
use Rattle.message.specs.declared.kinds.Message.TheVariants.{Ibf, IbfLast, Inquiry, Offer, Demand, Element, Done}
use Rattle.message.specs.declared.kinds.Slice.{Slice}
use Rattle.message.specs.declared.kinds.UnknownType.{UnknownType}
use Rattle.message.specs.Layout.{DEMAND, INQUIRY, OFFER, IBF, ELEMENT, IBF_LAST, DONE}

abbrev pub type_of : Kind → ℕ
type_of K.Ibf = IBF
type_of K.IbfLast = IBF_LAST
type_of K.Inquiry = INQUIRY
type_of K.Offer = OFFER
type_of K.Demand = DEMAND
type_of K.Element = ELEMENT
type_of K.Done = DONE

abbrev pub kind_named : ℕ → Result Kind UnknownType
kind_named n =
    cond (eqb n IBF) (Ok K.Ibf)
    (cond (eqb n IBF_LAST) (Ok K.IbfLast)
    (cond (eqb n INQUIRY) (Ok K.Inquiry)
    (cond (eqb n OFFER) (Ok K.Offer)
    (cond (eqb n DEMAND) (Ok K.Demand)
    (cond (eqb n ELEMENT) (Ok K.Element)
    (cond (eqb n DONE) (Ok K.Done)
    (Err (record { 0 = n }))))))))

abbrev pub kind_of : Message → Kind
kind_of (Ibf s) = K.Ibf
kind_of (IbfLast s) = K.IbfLast
kind_of (Inquiry salt n) = K.Inquiry
kind_of (Offer n) = K.Offer
kind_of (Demand n) = K.Demand
kind_of (Element n) = K.Element
kind_of Done = K.Done

abbrev pub slice_as : Message → Option Slice
slice_as (Ibf s) = Some s
slice_as (IbfLast s) = Some s
slice_as (Inquiry salt n) = None
slice_as (Offer n) = None
slice_as (Demand n) = None
slice_as (Element n) = None
slice_as Done = None
