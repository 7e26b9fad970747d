pub mod Arguments
pub mod Escapes
pub mod Faults
pub mod Service
pub mod Start
pub mod Usages
pub mod Words
