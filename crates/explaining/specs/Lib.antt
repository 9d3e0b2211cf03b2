-- The paper's numbers for the answers of explaining; `inner` is what inner functions promise each other.
pub mod Answer
pub mod Inner
