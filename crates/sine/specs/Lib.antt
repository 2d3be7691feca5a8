pub mod Table
pub mod Pairs
pub mod Sine
pub mod Bound
