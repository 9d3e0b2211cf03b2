-- The laws that the proofs of this crate rest on.
pub mod BeginLaws
pub mod CarryLaws
pub mod CopyLaws
pub mod CountLaws
pub mod FillLaws
pub mod FiringLaws
pub mod HashLaws
pub mod KeepLaws
pub mod LineLaws
pub mod MarkLaws
pub mod PairLaws
pub mod RecordLaws
pub mod ChainedLaws
pub mod RunLaws
pub mod VisitLaws
