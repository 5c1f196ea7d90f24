pub mod Found
pub mod Words
pub mod Marks
pub mod Drawn
pub mod Written
