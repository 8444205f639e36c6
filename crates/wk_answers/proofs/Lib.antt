pub mod DumpingSteps
pub mod ListingSteps
pub mod Telling
