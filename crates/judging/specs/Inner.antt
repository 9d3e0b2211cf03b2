-- What inner functions promise each other. No public contract cites this.
pub mod Codes
pub mod Firing
pub mod Rows
pub mod Found
pub mod Nodes
pub mod Links
pub mod Passes
pub mod Fresh
pub mod Noted
pub mod Order
pub mod Written
pub mod Trails
pub mod Facts
pub mod Judged
pub mod Ground
