pub mod Laid
pub mod Wrote
pub mod Raised
pub mod Records
pub mod Bit
pub mod Rows
pub mod Setting
pub mod Past
pub mod Strings
pub mod Framing
pub mod Search
pub mod Front
pub mod Fields
mod Examples
pub mod Stubs
