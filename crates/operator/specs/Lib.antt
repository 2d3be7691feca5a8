-- the definitions that the contracts cite
pub mod Sample
pub mod Chain
pub mod Parts
