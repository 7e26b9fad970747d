pub mod Lines
pub mod Lists
pub mod Options
pub mod Text
