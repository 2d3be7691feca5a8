-- the definitions that the contracts cite
pub mod Voice
pub mod Answers
