-- The definitions that the contracts of this crate cite, in the order in which document 01 speaks.
pub mod Answer
pub mod Line
pub mod Sheet
pub mod Read
pub mod Write
pub mod Refusals
pub mod Inner
