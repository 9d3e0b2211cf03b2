-- The laws that the proofs of this crate rest on, and the theorem for a reader: Theorems.
pub mod WidthLaws
pub mod RowLaws
pub mod RecordLaws
pub mod ListLaws
pub mod Theorems
