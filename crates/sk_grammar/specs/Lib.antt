-- What the tokens of a text are, when it is a query, and which query it is.
pub mod Characters
pub mod Pieces
pub mod Cutting
pub mod Bounds
pub mod Faults
pub mod Brackets
pub mod Parts
pub mod Runs
pub mod Meaning
