pub mod BackAgain
pub mod OneSheet
pub mod Pasting
pub mod ReadBack
pub mod Refusals
pub mod SheetRead
