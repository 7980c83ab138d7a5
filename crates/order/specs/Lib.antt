-- Numbers in the order of their keys.
pub mod Order
pub mod OrderLaws
