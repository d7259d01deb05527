pub mod Written
pub mod Values
pub mod Turns
