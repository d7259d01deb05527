pub mod Examples
pub mod Pulses
pub mod Theory
pub mod Windows
