-- the definitions that the contracts cite
pub mod Hash
pub mod Identity
