pub mod Access
pub mod Examples
pub mod Key
pub mod KeyFile
pub mod Lines
pub mod Needs
pub mod Own
pub mod Rights
