-- the definitions of whole runs, and what demand 3 compares
pub mod VoiceCalls
pub mod Run
pub mod Alike
pub mod Good
pub mod Example
