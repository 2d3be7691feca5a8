-- the definitions that the contracts cite, and calls as data
pub mod Answers
pub mod Calls
