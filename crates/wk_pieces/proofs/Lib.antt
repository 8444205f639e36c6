pub mod Replacing
pub mod Gaps
pub mod Piecing
pub mod CodeLengths
pub mod Putting
