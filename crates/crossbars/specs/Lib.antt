pub mod Crossbars
pub mod Held
pub mod Tables
