-- The definitions that the contracts of this crate cite, and what its theorem says.
pub mod Walk
pub mod Handed
pub mod Inner
