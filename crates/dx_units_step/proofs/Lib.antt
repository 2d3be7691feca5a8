-- where each mark stands, and what its step is
pub mod Marks
