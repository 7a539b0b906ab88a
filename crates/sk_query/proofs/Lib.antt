mod CountLemmas
pub mod ViewLaws
