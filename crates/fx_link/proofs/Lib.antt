pub mod NumberTrip
pub mod RecordTrip
pub mod OnAxes
pub mod KeyTrip
pub mod FlowTrip
pub mod DataTrip
pub mod TemplateTrip
pub mod TableTrip
pub mod BatchTrip
pub mod StreamTrip
pub mod FlushedMessages
pub mod OctetsCarried
pub mod WireTrip
pub mod OctetsPut
mod SinksKnown
pub mod SetsTrip
