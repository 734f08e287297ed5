pub mod Ranges
pub mod LinkedProcesses
pub mod OrderKeeps
pub mod RankedNetworks
