-- The rings that are written for the cycles, each with its place in the text.
pub mod Turning
pub mod Writing
pub mod Owning
pub mod Cuts
pub mod Keeping
pub mod PiecesWritten
pub mod CyclesWritten
