pub mod Faults
pub mod Grammar
pub mod Operator
pub mod Order
pub mod OrderLaws
pub mod Syntax
