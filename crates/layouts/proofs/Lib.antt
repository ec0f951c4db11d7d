pub mod Layouts
pub mod Spots
