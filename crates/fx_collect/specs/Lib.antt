pub mod Totals
pub mod Report
pub mod Runs
