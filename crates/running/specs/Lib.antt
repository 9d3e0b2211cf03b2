-- The contract of a run, and the answers of carrying out in the paper's numbers. `inner` has what the inner functions promise each other.
pub mod Held
pub mod Run
pub mod Answer
pub mod Inner
