-- The law of wrong lists, as the crate of wrong lists proves it.
pub use Rattle.wrong_lists.proofs.WrongLists.{wrong_lists}
