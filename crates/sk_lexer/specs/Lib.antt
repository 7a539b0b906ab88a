-- What the code of the lexer keeps, in the words of the definitions.
pub mod Shown
