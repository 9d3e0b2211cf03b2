-- What `rules_of` answers, and the table of rules. `inner` has what the inner functions promise each other.
pub mod Table
pub mod Answer
pub mod Inner
