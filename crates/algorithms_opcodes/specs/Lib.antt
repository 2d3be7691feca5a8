-- the tables that the contracts cite
pub mod Opcodes
