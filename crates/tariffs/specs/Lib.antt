pub mod Asked
pub mod Laws
pub mod PlainLaws
pub mod Plains
pub mod Questions
