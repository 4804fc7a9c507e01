-- What the contracts of files and sinks speak of.
pub mod Counts
pub mod Device
pub mod Growth
pub mod MemoryFiles
pub mod MemorySink
pub mod States
pub mod SureFiles
pub mod Taking
