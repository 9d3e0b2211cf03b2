-- The pages for a reader are Theorems, Answers, Sizes and Examples; the others are the laws that the proofs rest on.
pub mod DecimalLaws
pub mod ReaderLaws
pub mod Naming
pub mod OneAnswer
pub mod Sizes
pub mod Theorems
pub mod Answers
pub mod Examples
