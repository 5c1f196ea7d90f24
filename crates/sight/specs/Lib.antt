pub mod Sums
pub mod Static
pub mod Numbered
