-- What private contracts of the crate `session` cite. A reader has nothing to believe here: the definitions stand in `ledger`.
pub mod Moves
pub mod Turns
pub mod Ready
pub mod Judged
pub mod Steps
