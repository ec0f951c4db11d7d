pub mod Asking
pub mod Histories
pub mod Refusals
pub mod Steps
