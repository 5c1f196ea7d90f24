pub mod Entries
pub mod Matches
pub mod Pushes
pub mod Moves
pub mod Packed
pub mod Starts
pub mod Binds
pub mod Tops
