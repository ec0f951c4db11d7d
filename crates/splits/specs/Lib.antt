pub mod Blocks
pub mod Completing
pub mod Laws
pub mod Orders
pub mod Owners
pub mod Places
pub mod Splits
