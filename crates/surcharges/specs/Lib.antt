pub mod SurchargeLaws
pub mod Surcharges
