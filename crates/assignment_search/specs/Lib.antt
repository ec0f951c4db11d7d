pub mod Paths
pub mod Search
pub mod Trees
