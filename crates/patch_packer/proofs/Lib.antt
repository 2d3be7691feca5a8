pub mod Bytes
pub mod Checked
pub mod RoundTrip
pub mod Tables
