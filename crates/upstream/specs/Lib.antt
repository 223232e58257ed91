pub mod States
pub mod Tallies
pub mod Relations
pub mod Clauses
