pub mod WrongLists
