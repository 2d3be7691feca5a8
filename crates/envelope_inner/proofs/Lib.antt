-- the laws of the definitions
pub mod Laws
pub mod Positions
pub mod Segments
pub mod Walks
pub mod Scrubs
