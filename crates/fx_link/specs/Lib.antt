pub mod Records
pub mod Sending
pub mod Outgoing
pub mod Wires
pub mod Links
pub mod Ongoing
