pub mod Cells
pub mod Merging
pub mod Packages
pub mod Rising
pub mod Sums
