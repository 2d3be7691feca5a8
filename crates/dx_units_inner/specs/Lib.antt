pub mod Tables
pub mod Units
