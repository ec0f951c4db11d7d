pub mod BoundedLists
pub mod Refusals
