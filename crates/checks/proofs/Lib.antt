pub mod Told
pub mod Found
pub mod Ones
pub mod Comments
pub mod Each
pub mod OverRows
pub mod Good
pub mod OverPart
