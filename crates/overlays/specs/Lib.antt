pub mod Laws
pub mod Letters
pub mod Lines
pub mod Overlays
pub mod Packages
pub mod Turns
