pub mod Checked
pub mod Proposals
pub mod Reports
