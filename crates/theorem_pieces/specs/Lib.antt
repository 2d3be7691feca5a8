-- lists of pieces, with rests given again, and the runs of 128 bytes
pub mod Cuts
