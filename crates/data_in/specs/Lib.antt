pub mod CoefficientValues
pub mod DataText
pub mod DataReading
pub mod DataRefusal
pub mod Needs
pub mod Reader
pub mod Words
