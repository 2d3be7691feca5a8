-- what a block's marks shall be
pub mod Marks
