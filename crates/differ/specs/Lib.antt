-- The definitions of the program `differ`.
pub mod Text
pub mod Report
