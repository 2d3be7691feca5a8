pub mod Turns
pub mod Orders
pub mod Answers
pub mod RoundTrip
