pub mod Views
pub mod Casts
pub mod Signed
pub mod Rounded
pub mod Sizes
pub mod Below
