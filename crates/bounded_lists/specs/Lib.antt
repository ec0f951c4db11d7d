pub mod Completing
pub mod Lists
