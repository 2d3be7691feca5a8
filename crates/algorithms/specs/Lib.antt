-- the definitions that the contracts cite
pub mod Opcode
pub mod Chain
pub mod Plan
pub mod Table
pub mod Accepted
