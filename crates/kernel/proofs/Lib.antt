pub mod MassLaw
pub mod MassRun
pub mod MassWithin
pub mod Over
pub mod Rules
