pub mod Checked
pub mod Making
pub mod Tables
