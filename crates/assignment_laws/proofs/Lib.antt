pub mod Certificates
pub mod LeastBills
pub mod Same
pub mod SmallTables
pub mod Totals
pub mod Verdicts
