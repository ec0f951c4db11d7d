pub mod Asking
pub mod Cells
pub mod Drawings
pub mod Making
