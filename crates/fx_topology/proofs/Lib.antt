pub mod LinkByLink
pub mod StartsFindLinks
