pub mod Turn
pub mod Fold
pub mod Start
