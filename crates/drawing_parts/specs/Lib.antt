pub mod Making
pub mod Parts
pub mod Refusals
