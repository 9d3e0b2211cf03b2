-- What inner functions promise each other. No public contract cites this.
pub mod Records
