pub mod Kept
pub mod Slots
pub mod Marks
pub mod Stack
pub mod Global
