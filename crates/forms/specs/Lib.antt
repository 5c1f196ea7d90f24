pub mod Words
pub mod Ready
pub mod Puts
pub mod Spelling
pub mod HypRows
pub mod HypPuts
