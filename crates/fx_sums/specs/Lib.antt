pub mod Sums
pub mod SumText
pub mod SumLines
pub mod SumReading
