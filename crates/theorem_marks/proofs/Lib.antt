-- the marks of so many operators, and of a block
pub mod Levels
pub mod Marks
