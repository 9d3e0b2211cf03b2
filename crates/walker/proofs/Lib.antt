-- The laws that the proofs of this crate rest on, what the walker says where there is no line, and that a walk hands out the text's lines.
pub mod Walking
pub mod TextLines
