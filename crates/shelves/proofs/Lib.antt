pub mod Amounts
pub mod Blanks
pub mod Fills
pub mod Little
pub mod Overwrites
pub mod Packs
pub mod Shown
pub mod Unpacks
