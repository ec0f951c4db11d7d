pub mod Hitting
pub mod Once
