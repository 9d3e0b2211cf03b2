-- What it is to show steps as records.
pub mod Showing
