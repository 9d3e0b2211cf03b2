pub mod Bytes
pub mod Reply
pub mod Inner
