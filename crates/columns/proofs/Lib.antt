-- The laws that the proofs of this crate rest on.
pub mod ColumnLaws
pub mod DigitLaws
