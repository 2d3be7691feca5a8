-- the definitions that the contracts cite
pub mod Quarters
pub mod Calls
