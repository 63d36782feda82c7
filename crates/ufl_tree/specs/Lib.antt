pub mod Typed
pub mod Term
pub mod FormTerm
pub mod Reading
pub mod Indices
pub mod Places
pub mod Functions
