-- Where a list of numbers is wrong, as the crate of wrong lists defines it. Assumes nothing.
pub use Rattle.wrong_lists.specs.Lists.{Rule, wrong_from, first_wrong, Legal, Agree, WrongAt, Completes, WrongLists}
