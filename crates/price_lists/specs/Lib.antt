pub mod TableLaws
pub mod Tables
