pub mod Takes
pub mod Calls
pub mod Marks
pub mod History
pub mod Standing
pub mod Questions
pub mod Promise
pub mod Inside
