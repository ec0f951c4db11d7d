pub mod Answers
pub mod Checks
pub mod Lists
pub mod Numbers
