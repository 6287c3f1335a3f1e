pub mod OutputLemmas
pub mod Causes
pub mod Plain
pub mod InTurn
pub mod KeptLemmas
