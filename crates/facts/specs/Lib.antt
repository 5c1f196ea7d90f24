pub mod Facts
pub mod States
