pub mod Asked
pub mod Leftovers
pub mod Starting
