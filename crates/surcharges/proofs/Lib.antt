pub mod ChargeTables
