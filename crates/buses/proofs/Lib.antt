pub mod Refilled
pub mod Searched
pub mod Weighed
pub mod Written
