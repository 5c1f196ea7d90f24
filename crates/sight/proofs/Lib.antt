pub mod Sums
pub mod Numbering
pub mod Returns
pub mod Walks
pub mod Stacks
pub mod Constants
