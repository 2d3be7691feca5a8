-- the definitions that the contracts cite
pub mod Refusals
pub mod Answer
