pub mod Blocks
pub mod Covering
pub mod Cutting
pub mod Owning
pub mod Places
pub mod Sums
