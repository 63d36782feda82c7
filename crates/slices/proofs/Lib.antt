pub mod White
pub mod Next
pub mod Ahead
pub mod Form
pub mod FormNext
pub mod FormEnd
pub mod FormLengths
pub mod FormScan
