-- The laws that the proofs of this crate rest on, and the theorems for a reader: PatternTheorems.
pub mod BoolLaws
pub mod ListLaws
pub mod NumberedLaws
pub mod PatternLaws
pub mod LabelLaws
pub mod PatternList
pub mod PatternOrder
pub mod PatternRank
pub mod PatternRows
pub mod PatternSteps
pub mod PatternTest
pub mod PatternTheorems
