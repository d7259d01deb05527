pub mod Columns
pub mod Kinds
pub mod Entries
pub mod Pairs
pub mod Wholes
pub mod PairsLemmas
pub mod Singles
pub mod Orders
