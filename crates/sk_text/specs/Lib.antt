-- What a word of a text is, and which term it has.
pub mod Characters
pub mod Terms
pub mod Words
pub mod Layout
