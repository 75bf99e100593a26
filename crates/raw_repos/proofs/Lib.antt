pub mod NoteLemmas
pub mod HoldLemmas
