pub mod Entries
pub mod Bound
pub mod Packed
pub mod Matches
pub mod Pushes
