pub mod Completing
pub mod Costs
