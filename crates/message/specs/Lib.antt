-- The definitions of the crate `message`, in the order in which a reader meets them.
pub mod Layout
pub mod Kinds
pub mod Reading
pub mod Items
pub mod Laying
pub mod Writing
pub mod Walking
pub mod Putting
pub mod Numbers
