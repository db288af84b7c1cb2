-- The definitions of the crate `filter`. A reader has to believe those of the first part; the second is cited by private functions alone.
pub mod Answers
pub mod Lists
pub mod Sets
pub mod Table
pub mod Filter
pub mod Peeling
pub mod Stopping
pub mod Calls
pub mod Estimator
pub mod Numbers
pub mod Marks
pub mod Repeats
pub mod Steps
