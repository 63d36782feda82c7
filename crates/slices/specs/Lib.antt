pub mod White
pub mod CTable
pub mod Tokens
pub mod FormGap
pub mod FormTable
pub mod FormTokens
