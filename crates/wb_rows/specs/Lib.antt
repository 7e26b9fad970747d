pub mod Cells
pub mod FirstSchema
pub mod Forms
pub mod Reading
pub mod Scratch
pub mod Shown
