pub mod Buildable
pub mod Given
pub mod Making
pub mod Refusals
pub mod Tables
