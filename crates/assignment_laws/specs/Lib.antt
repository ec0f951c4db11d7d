pub mod Judging
pub mod Namings
pub mod Small
