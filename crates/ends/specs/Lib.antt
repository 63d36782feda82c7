pub mod Held
pub mod Count
pub mod Told
pub mod FilesInMemory
pub mod SinkInMemory
pub mod MemFile
