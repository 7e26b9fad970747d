pub mod AskerLemmas
pub mod ChangeLemmas
pub mod EntryLemmas
