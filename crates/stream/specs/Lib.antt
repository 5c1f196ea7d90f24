pub mod Wrote
pub mod Diagnostic
pub mod Bits
pub mod Framing
pub mod Fields
pub mod Pushed
pub mod Facts
