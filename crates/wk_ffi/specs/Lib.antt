-- What the arguments of a call ask for: the profile, the listing, flags and names.
pub mod Asked
-- What each call has to tell, by its arguments: a result code, bytes and a text.
pub mod Told
-- What the numbers of a fault, of its place and of a version are.
pub mod Numbers
-- What a call leaves in the memory that it is given, and the result that it returns.
pub mod Outputs
-- What the answers mean, in terms of the grammars, the verdict and the main theorem.
pub mod Meanings
-- What a host holds of a validator from one call to the next.
pub mod Handles
