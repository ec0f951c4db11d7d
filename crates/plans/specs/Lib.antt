pub mod Laws
pub mod Plans
pub mod Sheet
