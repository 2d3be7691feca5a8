-- the laws of the answers
pub mod Laws
-- the levels of an accepted setting
pub mod Levels
