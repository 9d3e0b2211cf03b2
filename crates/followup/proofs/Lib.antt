-- The laws that the proofs of this crate rest on.
pub mod ByteLaws
pub mod Kept
pub mod LineCounts
pub mod PatternLaws
pub mod ReadLaws
pub mod Truncated
pub mod StepBytes
pub mod StepAt
pub mod RecordBytes
pub mod TextLaws
pub mod ForecastLaws
pub mod ExplainLaws
