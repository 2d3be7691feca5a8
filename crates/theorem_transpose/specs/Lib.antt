-- a block without the switch, and what the switch is compared with
pub mod Transpose
