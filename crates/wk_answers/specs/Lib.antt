-- What `sections` prints: a line for each section that the bytes hold, and for a fault.
pub mod Listing
-- What `validate` prints, its status, and what both mean.
pub mod Validation
-- What `validate --explain` prints: where in the bytes the fault is.
pub mod Explaining
-- ---- laws, for proofs above
pub mod JudgingLaws
