pub mod Names
pub mod Meaning
pub mod Boxes
pub mod Located
