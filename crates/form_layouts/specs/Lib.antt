pub mod Occurring
pub mod Problems
pub mod Marks
pub mod Occurrences
pub mod Layouts
