-- The definitions that the contracts of this crate cite, and those that the crates above share.
pub mod Lists
pub mod Outcome
pub mod Pattern
pub mod PatternTable
