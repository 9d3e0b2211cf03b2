-- What inner functions promise each other. No public contract cites this.
pub mod Chains
pub mod Held
pub mod Chained
pub mod Firing
pub mod Pairs
pub mod Visits
pub mod Begun
pub mod Counted
pub mod Carry
