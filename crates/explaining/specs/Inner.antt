-- What inner functions promise each other. No public contract cites this.
pub mod Puts
pub mod Text
