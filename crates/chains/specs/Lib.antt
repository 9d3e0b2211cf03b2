-- `inner` has what the functions that look places up promise each other, here and in the crates above.
pub mod Inner
