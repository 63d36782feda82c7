pub mod CallLaws
pub mod GroupLaws
pub mod ItemReadings
pub mod MadeLaws
