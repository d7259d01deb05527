pub mod Records
pub mod Work
pub mod Runs
pub mod Passes
