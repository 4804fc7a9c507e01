-- The definitions that contracts cite.
pub mod Heap
pub mod HeapCell
pub mod History
pub mod Journal
pub mod Judge
pub mod Kind
pub mod Laws
pub mod Legal
pub mod LegalEvents
pub mod Ran
pub mod Seen
pub mod Shape
pub mod Sizes
pub mod Sound
pub mod Terms
pub mod Words
pub mod World
