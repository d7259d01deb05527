pub mod Parts
pub mod Places
pub mod Traces
pub mod Accepted
pub mod Refused
pub mod Laws
