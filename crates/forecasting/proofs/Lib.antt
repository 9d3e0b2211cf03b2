-- The laws that the proofs of this crate rest on.
pub mod DepthLaws
pub mod FigureLaws
pub mod MarkLaws
pub mod TermLaws
pub mod ValueLaws
