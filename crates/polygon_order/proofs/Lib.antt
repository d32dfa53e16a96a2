pub mod Cuts
pub mod Coordinates
pub mod ShellOrder
pub mod Copied
pub mod ByShell
