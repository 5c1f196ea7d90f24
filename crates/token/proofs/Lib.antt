pub mod Classes
pub mod Words
pub mod Keys
pub mod Lines
pub mod Read
pub mod Counts
pub mod Weights
pub mod Parts
