-- Answers for tests that give all references of a kind the same.
pub mod Alike
-- .. and what lists that are lent give.
pub mod Lent
