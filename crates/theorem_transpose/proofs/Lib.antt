-- the switch off and on
pub mod Transpose
