-- what each byte of a bank that comes in pieces does, what a call answers, and what the end says
pub mod Pieces
