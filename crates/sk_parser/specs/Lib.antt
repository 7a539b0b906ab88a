-- What the code of the parser keeps, in the words of the definitions.
pub mod Views
pub mod Base
pub mod Stack
pub mod Sound
pub mod Asked
