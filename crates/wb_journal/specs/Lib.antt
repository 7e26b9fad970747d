pub mod Appended
pub mod Changes
pub mod Commands
pub mod Entries
