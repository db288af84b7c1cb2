-- The laws of the program `differ`.
pub mod TextLaws
pub mod ReportLaws
pub mod RefusalLaws
