-- A draft of a module: a stub stands for each body that no edit has replaced.
pub mod Drafts
-- What edits of a draft give of its module: the bytes, the verdict and the replies.
pub mod Runs
-- ---- steps, for those who read proofs

-- What one edit of a draft says of the same edit of its module.
pub mod Steps
