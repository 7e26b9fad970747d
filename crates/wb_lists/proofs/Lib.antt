pub mod ListLemmas
pub mod OpenedLemmas
