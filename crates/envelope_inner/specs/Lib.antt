-- the definitions that the contracts cite
pub mod Envelope
pub mod Set
pub mod Scrub
