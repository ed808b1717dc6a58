pub mod Table
pub mod Numbers
pub mod TableRule
pub mod Operands
