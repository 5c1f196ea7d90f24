pub mod Promises
pub mod Unique
pub mod Views
