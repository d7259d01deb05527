pub mod Table
pub mod Faults
