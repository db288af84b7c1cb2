-- The definitions of the session, in the order in which a reader meets them. Numbers states document 01's bare numbers of them.
pub mod Grid
pub mod Session
pub mod Form
pub mod Memory
pub mod Calls
pub mod Numbers
