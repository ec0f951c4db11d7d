pub mod Flipping
pub mod Growing
pub mod Relaxing
pub mod Settling
pub mod Starting
