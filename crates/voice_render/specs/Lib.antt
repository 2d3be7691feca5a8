-- the definitions that the contracts cite
pub mod Setup
pub mod Block
pub mod Answers
pub mod Heard
