-- The laws that the proofs of this crate rest on, and the theorems for a reader: Theorems.
pub mod OutlookLaws
pub mod Theorems
