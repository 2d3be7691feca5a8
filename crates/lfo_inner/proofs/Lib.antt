-- the laws of the definitions
pub mod Scrubs
pub mod Tests
