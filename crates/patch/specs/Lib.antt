pub mod Layout
pub mod Form
pub mod Positions
pub mod Packed
