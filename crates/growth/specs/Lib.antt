-- What is foretold of a sheet that settles: the figures, what they are said of, the contract, and small sheets with their figures.
pub mod Forecast
pub mod Counted
pub mod Contract
pub mod Sheets
