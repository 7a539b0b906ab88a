-- What the finder of faults keeps, in the words of the definitions.
pub mod Before
