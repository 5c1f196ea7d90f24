pub mod Breach
pub mod Found
pub mod Tokens
pub mod Visible
pub mod Walks
