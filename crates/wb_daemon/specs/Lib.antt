pub mod Answered
pub mod Limits
pub mod Replays
pub mod Reports
pub mod Run
pub mod Single
pub mod Turn
