-- The laws of the crate `probe`.
pub mod ChainLaws
pub mod FourLaws
