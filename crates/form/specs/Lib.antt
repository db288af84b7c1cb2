-- What contracts of the crate `form` cite beside the definitions of `ledger`.
pub mod Tallies
pub mod Answers
pub mod Grid
pub mod Sending
