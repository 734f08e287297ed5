pub mod FlowMaps
pub mod Recency
pub mod Orders
pub mod Hashed
