-- The laws that the proofs of this crate rest on, and the theorems for a reader: Theorems.
pub mod Ranges
pub mod Filling
pub mod Bounds
pub mod Reports
pub mod Theorems
