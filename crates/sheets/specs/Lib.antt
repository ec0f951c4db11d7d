pub mod Lines
pub mod Sheet
pub mod Text
