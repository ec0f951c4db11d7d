pub mod Rules
pub mod WrongLists
