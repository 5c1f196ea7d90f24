pub mod Class
pub mod Words
pub mod Count
