-- Which stem a word has.
pub mod Letters
pub mod Rules
pub mod Stems
pub mod Tables
pub mod Terms
