pub mod Cuts
pub mod Repeats
pub mod Lowers
pub mod Renewal
pub mod Converted
pub mod Regular
pub mod Written
