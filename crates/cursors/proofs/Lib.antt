pub mod Leaving
pub mod Stepping
