-- What a sheet means: the definitions that the judge's contract cites, in the order in which document 01 speaks. `inner` has what the judge computes with.
pub mod Lists
pub mod Rules
pub mod Value
pub mod Making
pub mod Run
pub mod Shape
pub mod Counting
pub mod Steps
pub mod Judge
pub mod Rounding
pub mod Homomorphism
pub mod Chase
pub mod Simplification
pub mod Certificate
pub mod Cases
pub mod Filled
pub mod Inner
