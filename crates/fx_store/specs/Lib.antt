pub mod Order
pub mod KeyOrder
pub mod Flows
pub mod Recent
