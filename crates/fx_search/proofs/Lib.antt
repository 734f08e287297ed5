pub mod AheadWithinTarget
pub mod GrowingCertificate
pub mod ShortLines
pub mod RegionsTaken
pub mod SearchEnds
pub mod Texts
pub mod RegionsAhead
