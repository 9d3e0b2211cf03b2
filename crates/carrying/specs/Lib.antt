-- The rules of a sheet carried out on numbers, what the numbers mean, and the contract. `inner` has what the code computes with.
pub mod Carrying
pub mod Meaning
pub mod Contract
pub mod Sheets
pub mod Inner
