pub mod Stub
pub mod Front
pub mod InHand
pub mod Assert
