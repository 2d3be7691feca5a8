pub mod Interpolate
