pub mod Buses
pub mod Entries
pub mod Laid
pub mod Carried
