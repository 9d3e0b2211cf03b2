-- What the code computes with. No contract and no theorem for a reader cites this.
pub mod Keys
