pub mod Connections
pub mod Exchanges
pub mod Places
