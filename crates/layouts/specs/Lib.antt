pub mod Asking
pub mod Layouts
pub mod Making
