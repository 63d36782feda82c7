pub mod Lists
pub mod DegreeLaws
pub mod FunctionLaws
pub mod OrderLaws
pub mod ProductLaws
