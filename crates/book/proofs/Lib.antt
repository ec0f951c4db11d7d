pub mod Carried
pub mod Least
