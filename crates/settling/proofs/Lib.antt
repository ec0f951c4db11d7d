pub mod Certified
pub mod Checked
pub mod Made
pub mod Sizes
pub mod Sums
