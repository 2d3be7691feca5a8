pub mod Arrays
pub mod Defaults
pub mod Each
pub mod Made
pub mod Positions
pub mod Reading
