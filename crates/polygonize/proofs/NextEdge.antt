-- The next edge round a vertex.
pub mod Turns
pub mod Sooner
pub mod RoundVertex
pub mod Looking
pub mod Linking
