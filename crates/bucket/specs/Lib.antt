-- The definitions of the crate `bucket`, from the lowest up.
pub mod Lists
pub mod Digits
pub mod Crc
pub mod Salt
pub mod Counts
pub mod Places
pub mod Bucket
pub mod Columns
pub mod Packing
