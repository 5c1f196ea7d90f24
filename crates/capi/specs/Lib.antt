pub mod Promise
pub mod Unique
pub mod View
