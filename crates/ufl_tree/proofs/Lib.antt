pub mod ReadingLaws
pub mod KindLaws
pub mod FunctionLaws
