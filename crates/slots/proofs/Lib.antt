pub mod Kept
pub mod Slots
pub mod Words
pub mod Marks
pub mod Stacks
pub mod Lowest
