pub mod Rows
pub mod Zeros
