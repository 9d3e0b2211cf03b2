-- The answers of judging in document 01's numbers. `inner` has what the inner functions promise each other.
pub mod Answer
pub mod Inner
