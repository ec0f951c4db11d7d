pub mod Prices
pub mod Records
pub mod Settling
