-- The laws that the proofs of this crate rest on, and the theorems for a reader: Theorems.
pub mod ExplanationLaws
pub mod Theorems
