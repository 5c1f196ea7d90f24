pub mod Atoms
pub mod Named
pub mod Kept
pub mod Links
pub mod Table
pub mod Naming
pub mod Lookups
