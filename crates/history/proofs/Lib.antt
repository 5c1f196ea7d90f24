pub mod Static
pub mod Rows
pub mod Active
pub mod Floats
pub mod Framed
