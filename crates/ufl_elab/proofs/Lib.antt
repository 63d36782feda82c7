pub mod EntryLaws
pub mod ExportLaws
pub mod LiteralLaws
pub mod Readings
pub mod StatementLaws
pub mod StepLaws
