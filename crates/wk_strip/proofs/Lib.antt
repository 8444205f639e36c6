pub mod Staying
pub mod Assembled
pub mod Joined
pub mod Told
pub mod Over
pub mod Rewriting
pub mod Parting
