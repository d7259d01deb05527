pub mod Bytes
pub mod Figures
pub mod Reader
pub mod Headings
pub mod Laws
