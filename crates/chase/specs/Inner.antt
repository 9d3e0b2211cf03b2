-- What the judge computes with. No contract and no theorem for a reader cites this.
pub mod Digits
