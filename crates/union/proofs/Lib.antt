-- The laws above the session that no function needs. CallTheorems, Closing and Union are what a reader looks at.
--
--   NarrowLaws, SentLaws, SentRooms     what a step sends is in range, and fits the outgoing buffer
--   HandedBack, CallGiven, Called       a call on the memory that the last one left is the definition's step
--   CallKept, Starts, Sequences         starts leave a good form and calls keep it, over any sequence of them
--   CallReads, CallSends                demand 3 of a session's call; what it sends is read back
--   CallTheorems                        the theorems of calls
--   Closing                             why state 4 of document 01 could go (document 02, Req 04)
--   Net, Ends, Hearing                  two ends and two queues; what an end is; what it does with each kind of message
--   Difference, FirstFilter, Union      both ends finish with the union (document 02, Req 14)
--   Listing                             its premise on the first filter, from demand 3's
pub mod NarrowLaws
pub mod SentLaws
pub mod Net
pub mod Ends
pub mod Hearing
pub mod Difference
pub mod FirstFilter
pub mod Union
pub mod Listing
pub mod HandedBack
pub mod CallGiven
pub mod Called
pub mod CallKept
pub mod Starts
pub mod Sequences
pub mod CallReads
pub mod SentRooms
pub mod CallSends
pub mod CallTheorems
pub mod Closing
