mod Slots
pub mod History
mod Bounds
mod Adding
mod Shown
mod Asked
mod Promised
