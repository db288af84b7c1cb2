-- The laws of the crate `form`: its judging by counting is refusal 1's test, and what the counts are.
pub mod AllOfLaws
pub mod CommonLaws
pub mod GridTie
pub mod CountLaws
pub mod MarkTests
pub mod TestedLaws
pub mod JudgeLaws
pub mod FormTie
pub mod TallyLaws
pub mod JudgedLaws
pub mod SendingLaws
pub mod StartLaws
